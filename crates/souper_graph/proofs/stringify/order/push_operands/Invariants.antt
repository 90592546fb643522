use Rattle.std.proofs.Common.{◌≡◌, ◌≤◌, ◌++◌, length, map, reverse, drop}
use Rattle.souper_graph.specs.declared.stringify.order.Entry.TheVariants.{Trace}
use Rattle.souper_graph.specs.Uses.{uses_of_operands}
use Rattle.souper_graph.specs.Walks.{target_of}
use Rattle.souper_graph.proofs.stringify.order.push_operands.Given as goal

-- the uses of those from `left` on are on the stack
abbrev pub invariant-loop-left : goal.invariant-loop-left
invariant-loop-left l =
    (l.left ≤ length l.operands) × (reverse l.stack.items ≡ map (λ named. Trace (target_of named)) (uses_of_operands (drop l.left l.operands)) ++ reverse l.initial.stack.items)

abbrev pub decreases-loop-left : goal.decreases-loop-left
decreases-loop-left l = l.left
