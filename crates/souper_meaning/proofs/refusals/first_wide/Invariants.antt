use Rattle.souper_graph.specs.PartsView.{view_parts}
use Rattle.souper_widths.specs.View.{view_widths}
use Rattle.souper_meaning.specs.Evaluable.{IsNarrowAt}
use Rattle.souper_meaning.specs.Plans.{HoldsBelow}
use Rattle.souper_meaning.proofs.refusals.first_wide.Given as goal

-- all statements so far are narrow
abbrev pub invariant-loop-position : goal.invariant-loop-position
invariant-loop-position l = HoldsBelow (view_parts l.parts) (IsNarrowAt (view_widths l.widths)) l.position
