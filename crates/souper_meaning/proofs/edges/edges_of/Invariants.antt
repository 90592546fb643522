-- The edges so far, and then those of the remaining statements, are the edges of all.
use Rattle.std.proofs.Common.{◌≡◌, ◌++◌, map, flat_map}
use Rattle.souper_graph.specs.View.{view_statement}
use Rattle.souper_meaning.specs.Sampling.{neighbours_of_statement}
use Rattle.souper_meaning.proofs.Neighbours.{neighbours_among}
use Rattle.souper_meaning.proofs.edges.edges_of.Given as goal

abbrev pub invariant-loop-statement : goal.invariant-loop-statement
invariant-loop-statement l = (goal.iterator-loop-statement).can_next l.statement-iterator × (goal.iterator-loop-statement).is_finite l.statement-iterator
    × (l.edges.items ++ neighbours_among l.statement-iterator ≡ l.initial.edges.items ++ flat_map neighbours_of_statement (map view_statement l.parts.statements.now))
