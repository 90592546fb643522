-- Each record took a byte.
use Rattle.std.proofs.Common.{◌≡◌, length}
use Rattle.replay_answers.proofs.streams.replay_streams.Given as goal

abbrev pub invariant-loop-record : goal.invariant-loop-record
invariant-loop-record g l = Unit {0}

abbrev pub decreases-loop-record : goal.decreases-loop-record
decreases-loop-record g l = length l.rest
