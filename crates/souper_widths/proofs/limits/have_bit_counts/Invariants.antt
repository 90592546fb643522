use Rattle.std.proofs.Common.{take, map}
use Rattle.std.specs.List.{AllByRecursion}
use Rattle.souper_graph.specs.View.{view_attribute}
use Rattle.souper_widths.specs.Limits.{HasBitCount}
use Rattle.souper_widths.proofs.limits.have_bit_counts.Given as goal

-- the attributes so far are within the width
abbrev pub invariant-loop-attribute : goal.invariant-loop-attribute
invariant-loop-attribute l = AllByRecursion (HasBitCount l.width) (map view_attribute (take l.attribute-index l.attributes))
