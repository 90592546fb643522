use Rattle.std.proofs.Common.{take, map}
use Rattle.std.specs.List.{AllByRecursion}
use Rattle.souper_graph.specs.View.{view_root_attribute}
use Rattle.souper_graph.specs.WellFormed.{FitsRootAttribute}
use Rattle.souper_graph.proofs.ast.well_formed.fitting.root_attributes_fit.Given as goal

-- the attributes so far are valid
abbrev pub invariant-loop-attribute : goal.invariant-loop-attribute
invariant-loop-attribute l = AllByRecursion FitsRootAttribute (map view_root_attribute (take l.attribute-index l.attributes))
