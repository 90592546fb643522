-- Each record so far took a byte, and if each was as stored the bytes are right if the rest is.
use Rattle.std.proofs.Common.{IsTrue, ◌+◌, ◌≤◌, length}
use Rattle.replay_answers.specs.Answers.{AllRight}
use Rattle.replay_answers.proofs.answers.replay.Given as goal

abbrev pub invariant-loop-record : goal.invariant-loop-record
invariant-loop-record g l = (l.same + length l.rest ≤ length l.bytes) × (IsTrue l.all_same → AllRight l.rest → AllRight l.bytes)

abbrev pub decreases-loop-record : goal.decreases-loop-record
decreases-loop-record g l = length l.rest
