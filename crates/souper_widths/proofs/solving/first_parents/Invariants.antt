use Rattle.std.proofs.Common.{◌≡◌}
use Rattle.souper_widths.specs.Nodes.{listed}
use Rattle.souper_widths.proofs.solving.first_parents.Given as goal

abbrev pub invariant-loop-node : goal.invariant-loop-node
invariant-loop-node l = l.parents.items ≡ listed (λ i. i) l.node
