use Rattle.souper_graph.specs.PartsView.{view_parts}
use Rattle.souper_widths.specs.View.{view_widths}
use Rattle.souper_meaning.specs.View.{view_world, view_mode}
use Rattle.souper_meaning.specs.Worlds.{GivesAt}
use Rattle.souper_meaning.specs.Plans.{HoldsBelow}
use Rattle.souper_meaning.proofs.giving.first_ungiven.Given as goal

-- the statements so far have what they need
abbrev pub invariant-loop-position : goal.invariant-loop-position
invariant-loop-position l = HoldsBelow (view_parts l.parts) (GivesAt (view_mode l.mode) (view_parts l.parts) (view_widths l.plan.widths) (view_world l.world)) l.position
