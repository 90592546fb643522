use Rattle.std.proofs.Common.{◌-◌, ◌≤◌, replicate}
use Rattle.std.specs.Fmt.{HasWritten, IsPlainFormatter}
use Rattle.souper_errors.proofs.place.show.Given as goal

-- Each turn has written a space.
abbrev pub invariant-loop : goal.invariant-loop
invariant-loop g l = (l.counter - 1 ≤ l.column - 1)
    × (IsPlainFormatter l.initial.f → HasWritten g.W.Write.write_str_gives l.initial.f (replicate (l.counter - 1) 32) l.f)
