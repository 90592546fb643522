use Rattle.std.proofs.Common.{map, take}
use Rattle.souper_graph.specs.Uses.{Has}
use Rattle.souper_graph.specs.View.{view_attribute}
use Rattle.souper_embedding.proofs.facts.has_fact.Given as goal

abbrev pub invariant-loop-other : goal.invariant-loop-other
invariant-loop-other l = Has (map view_attribute (take l.other-index l.given)) (view_attribute l.fact) → ⊥
