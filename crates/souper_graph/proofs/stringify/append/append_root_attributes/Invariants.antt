use Rattle.std.proofs.Common.{◌≡◌, ◌++◌, map, take}
use Rattle.std.specs.String.{string_bytes}
use Rattle.souper_graph.specs.Leaves.{text_of_root_attributes}
use Rattle.souper_graph.specs.View.{view_root_attribute}
use Rattle.souper_graph.proofs.stringify.append.append_root_attributes.Given as goal

-- the attributes so far are written
abbrev pub invariant-loop-root_attribute : goal.invariant-loop-root_attribute
invariant-loop-root_attribute l =
    string_bytes l.out ≡ string_bytes l.initial.out ++ text_of_root_attributes (map view_root_attribute (take l.root_attribute-index l.attributes))
