use Rattle.souper_graph.specs.PartsView.{view_parts}
use Rattle.souper_widths.specs.View.{view_widths}
use Rattle.souper_meaning.specs.View.{view_world}
use Rattle.souper_meaning.specs.Statements.{AreOutcomesBelow}
use Rattle.souper_meaning.proofs.evaluation.eval_into.Given as goal

-- the outcomes so far are there
abbrev pub invariant-loop-position : goal.invariant-loop-position
invariant-loop-position l = AreOutcomesBelow (view_parts l.parts) (view_widths l.plan.widths) (view_world l.world) l.outcomes l.position
