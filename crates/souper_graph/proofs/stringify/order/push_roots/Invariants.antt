use Rattle.std.proofs.Common.{◌≡◌, ◌++◌, map, take}
use Rattle.souper_graph.specs.Uses.{uses_of_operands}
use Rattle.souper_graph.specs.Walks.{target_of}
use Rattle.souper_graph.proofs.stringify.order.push_roots.Given as goal

-- the uses of the first roots are in the targets
abbrev pub invariant-loop-root : goal.invariant-loop-root
invariant-loop-root l =
    l.targets.items ≡ l.initial.targets.items ++ map target_of (uses_of_operands (take l.root-index l.roots))
