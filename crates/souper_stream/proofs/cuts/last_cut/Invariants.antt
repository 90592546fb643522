-- Whole lines are before the start.
use Rattle.std.proofs.Common.{◌≤◌, length, take}
use Rattle.souper_stream.proofs.Prelude.{IsLines}
use Rattle.souper_stream.proofs.cuts.last_cut.Given as goal

abbrev pub invariant-loop-start : goal.invariant-loop-start
invariant-loop-start g l = IsLines (take l.start l.text) × (l.start ≤ length l.text)

abbrev pub decreases-loop-start : goal.decreases-loop-start
decreases-loop-start g l = l.start
