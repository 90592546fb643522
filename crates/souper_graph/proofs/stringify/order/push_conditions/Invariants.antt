use Rattle.std.proofs.Common.{◌≡◌, ◌++◌, map, take}
use Rattle.souper_graph.specs.declared.stringify.order.Target.TheVariants.{Condition}
use Rattle.souper_graph.specs.View.{view_statement}
use Rattle.souper_graph.specs.Uses.{conditions_from}
use Rattle.souper_graph.proofs.stringify.order.push_conditions.Given as goal

-- the path conditions among the first statements are in the targets
abbrev pub invariant-loop-index : goal.invariant-loop-index
invariant-loop-index l =
    l.targets.items ≡ l.initial.targets.items ++ map (λ i. Condition i) (conditions_from 0 (take l.index (map view_statement l.statements)))
