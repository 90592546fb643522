use Rattle.std.proofs.Common.{◌≡◌, map, take}
use Rattle.souper_graph.specs.View.{view_root_attribute}
use Rattle.souper_meaning.specs.Facts.{wanted_bits}
use Rattle.souper_meaning.proofs.wanted.wanted_bits_of.Given as goal

-- the bits that the attributes so far want
abbrev pub invariant-loop-attribute : goal.invariant-loop-attribute
invariant-loop-attribute l = l.wanted ≡ wanted_bits l.width (map view_root_attribute (take l.attribute-index l.attributes))
