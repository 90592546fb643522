use Rattle.std.proofs.Common.{take, map}
use Rattle.std.specs.List.{AllByRecursion}
use Rattle.souper_graph.specs.View.{view_root_attribute}
use Rattle.souper_widths.specs.Limits.{HasRootBitCount}
use Rattle.souper_widths.proofs.limits.have_root_bit_counts.Given as goal

-- the attributes so far are within the width
abbrev pub invariant-loop-attribute : goal.invariant-loop-attribute
invariant-loop-attribute l = AllByRecursion (HasRootBitCount l.width) (map view_root_attribute (take l.attribute-index l.attributes))
