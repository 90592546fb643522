use Rattle.std.proofs.Common.{arith}
use Rattle.souper_graph.specs.PartsView.{view_parts}
use Rattle.souper_graph.proofs.Judging.Needed.{well_formed_inside}
use Rattle.souper_widths.specs.View.{view_widths}
use Rattle.souper_meaning.specs.View.{view_world}
use Rattle.souper_meaning.proofs.ByPosition.{outcomes_more}
use Rattle.souper_meaning.proofs.evaluation.eval_into.Goals as goal

pub loop-position-preserved : goal.loop-position-preserved
loop-position-preserved c =
    outcomes_more (view_parts c.args.parts.now) (view_widths c.args.plan.now.widths) (view_world c.args.world.now) c.loop-position.outcomes c.loop-position.position c.needed_outcome-outcome.result (omega arith)
    c.needed_outcome-outcome.ensures c.loop-position.invariant

pub returns : goal.returns
returns c = λ p d.
    c.loop-position.invariant p d (omega (arith, well_formed_inside (view_parts c.args.parts.now) c.requires.planned.well_formed p d))
