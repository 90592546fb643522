use Rattle.std.specs.Prelude.{map}
use Rattle.souper_graph.specs.View.{view_statement}
use Rattle.souper_embedding.specs.Given.{AreGivenTo}
use Rattle.souper_embedding.proofs.conditions.given_of.Given as goal

abbrev pub invariant-loop-index : goal.invariant-loop-index
invariant-loop-index l = AreGivenTo (map view_statement l.statements) l.index l.found.items
