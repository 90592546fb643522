use Rattle.souper_graph.specs.PartsView.{view_parts}
use Rattle.souper_meaning.specs.Evaluable.{HasMeaningAt}
use Rattle.souper_meaning.specs.Plans.{HoldsBelow}
use Rattle.souper_meaning.proofs.refusals.first_hole.Given as goal

-- no hole so far
abbrev pub invariant-loop-position : goal.invariant-loop-position
invariant-loop-position l = HoldsBelow (view_parts l.parts) (HasMeaningAt (view_parts l.parts)) l.position
