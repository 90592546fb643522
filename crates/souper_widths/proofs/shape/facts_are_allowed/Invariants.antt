use Rattle.std.proofs.Common.{take, map}
use Rattle.std.specs.Prelude.{IsTrue}
use Rattle.std.specs.List.{AllByRecursion}
use Rattle.souper_graph.specs.View.{view_attribute}
use Rattle.souper_widths.specs.Shape.{IsFact}
use Rattle.souper_widths.proofs.shape.facts_are_allowed.Given as goal

-- the facts so far are about an input
abbrev pub invariant-loop-attribute : goal.invariant-loop-attribute
invariant-loop-attribute l = AllByRecursion (λ f. IsFact f → IsTrue l.is_input) (map view_attribute (take l.attribute-index l.attributes))
