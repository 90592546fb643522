use Rattle.std.proofs.Common.{map, take}
use Rattle.souper_graph.specs.View.{view_root_attribute}
use Rattle.souper_embedding.specs.Embedding.{WantsWithin}
use Rattle.souper_embedding.proofs.facts.wants_within.Given as goal

abbrev pub invariant-loop-attribute : goal.invariant-loop-attribute
invariant-loop-attribute l = WantsWithin (map view_root_attribute (take l.attribute-index l.stored)) (map view_root_attribute l.query)
