use Rattle.std.proofs.Common.{◌≡◌, map, take}
use Rattle.souper_graph.specs.View.{view_attribute}
use Rattle.souper_graph.proofs.ast.clones.clone_attributes.Given as goal

-- the attributes so far are copied
abbrev pub invariant-loop-attribute : goal.invariant-loop-attribute
invariant-loop-attribute l = map view_attribute l.copies.items ≡ map view_attribute (take l.attribute-index l.attributes.items)
