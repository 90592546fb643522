use Rattle.std.proofs.Common.{◌≡◌}
use Rattle.souper_widths.specs.Forest.{widths_below}
use Rattle.souper_widths.proofs.solving.widths_of.Given as goal

abbrev pub invariant-loop-node : goal.invariant-loop-node
invariant-loop-node l = l.widths.items ≡ widths_below l.parents l.numbers l.node
