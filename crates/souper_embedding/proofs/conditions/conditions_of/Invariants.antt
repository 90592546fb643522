use Rattle.std.proofs.Common.{◌≡◌, map, take}
use Rattle.souper_graph.specs.Uses.{conditions_from}
use Rattle.souper_graph.specs.View.{view_statement}
use Rattle.souper_embedding.proofs.conditions.conditions_of.Given as goal

abbrev pub invariant-loop-index : goal.invariant-loop-index
invariant-loop-index l = l.found.items ≡ conditions_from 0 (take l.index (map view_statement l.statements))
