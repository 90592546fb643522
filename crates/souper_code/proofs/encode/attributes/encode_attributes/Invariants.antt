use Rattle.std.proofs.Common.{◌≡◌, ◌++◌, map, flat_map, take}
use Rattle.souper_graph.specs.View.{view_attribute}
use Rattle.souper_code.specs.Codes.{code_of_attribute}
use Rattle.souper_code.proofs.encode.attributes.encode_attributes.Given as goal

-- the attributes so far are written
abbrev pub invariant-loop-attribute : goal.invariant-loop-attribute
invariant-loop-attribute l =
    l.out.items ≡ l.initial.out.items ++ flat_map code_of_attribute (map view_attribute (take l.attribute-index l.attributes))
