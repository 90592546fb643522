use Rattle.std.proofs.Common.{take, map}
use Rattle.std.specs.List.{AllByRecursion}
use Rattle.souper_graph.specs.View.{view_attribute}
use Rattle.souper_meaning.specs.Facts.{HoldsOf}
use Rattle.souper_meaning.proofs.facts.hold_of.Given as goal

-- the facts so far hold
abbrev pub invariant-loop-attribute : goal.invariant-loop-attribute
invariant-loop-attribute l = AllByRecursion (HoldsOf l.width l.n) (map view_attribute (take l.attribute-index l.attributes))
