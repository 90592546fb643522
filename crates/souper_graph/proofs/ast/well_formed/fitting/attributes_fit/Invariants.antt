use Rattle.std.proofs.Common.{take, map}
use Rattle.std.specs.List.{AllByRecursion}
use Rattle.souper_graph.specs.View.{view_attribute}
use Rattle.souper_graph.specs.WellFormed.{FitsAttribute}
use Rattle.souper_graph.proofs.ast.well_formed.fitting.attributes_fit.Given as goal

-- the attributes so far are valid
abbrev pub invariant-loop-attribute : goal.invariant-loop-attribute
invariant-loop-attribute l = AllByRecursion FitsAttribute (map view_attribute (take l.attribute-index l.attributes))
