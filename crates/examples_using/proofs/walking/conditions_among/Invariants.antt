-- The conditions so far, and then the remaining ones, are all.
use Rattle.std.proofs.Common.{◌≡◌, ◌++◌, map}
use Rattle.souper_graph.specs.Uses.{conditions_from}
use Rattle.souper_graph.specs.View.{view_statement}
use Rattle.examples_using.proofs.Conditions.{conditions_among}
use Rattle.examples_using.proofs.walking.conditions_among.Given as goal

abbrev pub invariant-loop-id : goal.invariant-loop-id
invariant-loop-id l = (goal.iterator-loop-id).can_next l.id-iterator × (goal.iterator-loop-id).is_finite l.id-iterator
    × (l.ids.items ++ conditions_among l.id-iterator ≡ conditions_from 0 (map view_statement l.statements))
