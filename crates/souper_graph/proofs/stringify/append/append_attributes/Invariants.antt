use Rattle.std.proofs.Common.{◌≡◌, ◌++◌, map, take}
use Rattle.std.specs.String.{string_bytes}
use Rattle.souper_graph.specs.Leaves.{text_of_attributes}
use Rattle.souper_graph.specs.View.{view_attribute}
use Rattle.souper_graph.proofs.stringify.append.append_attributes.Given as goal

-- the attributes so far are written
abbrev pub invariant-loop-attribute : goal.invariant-loop-attribute
invariant-loop-attribute l =
    string_bytes l.out ≡ string_bytes l.initial.out ++ text_of_attributes (map view_attribute (take l.attribute-index l.attributes))
