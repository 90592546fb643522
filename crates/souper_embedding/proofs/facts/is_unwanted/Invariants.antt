use Rattle.std.proofs.Common.{map, take}
use Rattle.souper_graph.specs.View.{view_root_attribute}
use Rattle.souper_embedding.specs.Embedding.{IsUnwanted}
use Rattle.souper_embedding.proofs.facts.is_unwanted.Given as goal

abbrev pub invariant-loop-attribute : goal.invariant-loop-attribute
invariant-loop-attribute l = IsUnwanted (map view_root_attribute (take l.attribute-index l.attributes)) l.index → ⊥
