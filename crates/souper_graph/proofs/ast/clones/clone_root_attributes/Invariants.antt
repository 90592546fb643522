use Rattle.std.proofs.Common.{◌≡◌, map, take}
use Rattle.souper_graph.specs.View.{view_root_attribute}
use Rattle.souper_graph.proofs.ast.clones.clone_root_attributes.Given as goal

-- the attributes so far are copied
abbrev pub invariant-loop-root_attribute : goal.invariant-loop-root_attribute
invariant-loop-root_attribute l = map view_root_attribute l.copies.items ≡ map view_root_attribute (take l.root_attribute-index l.attributes.items)
