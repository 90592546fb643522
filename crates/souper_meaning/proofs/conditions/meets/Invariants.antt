use Rattle.souper_graph.specs.PartsView.{view_parts}
use Rattle.souper_widths.specs.View.{view_widths}
use Rattle.souper_meaning.specs.View.{view_world}
use Rattle.souper_meaning.specs.Sound.{MeetsAt}
use Rattle.souper_meaning.specs.Plans.{HoldsBelow}
use Rattle.souper_meaning.proofs.conditions.meets.Given as goal

-- the statements so far are met
abbrev pub invariant-loop-position : goal.invariant-loop-position
invariant-loop-position l = HoldsBelow (view_parts l.parts) (MeetsAt (view_parts l.parts) (view_widths l.plan.widths) (view_world l.world)) l.position
