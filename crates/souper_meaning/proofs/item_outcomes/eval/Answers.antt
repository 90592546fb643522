use Rattle.std.proofs.Common.{sym, subst}
use Rattle.std.specs.Prelude.{IfOk, IfErr}
use Rattle.souper_graph.specs.Values.{Item}
use Rattle.souper_meaning.specs.View.{view_world}
use Rattle.souper_meaning.specs.Plans.{IsPlan}
use Rattle.souper_meaning.specs.Evaluations.{IsEvaluation, IsEvalError}
use Rattle.souper_meaning.proofs.item_outcomes.eval.Goals as goal

pub planned_eval-requires : goal.planned_eval-requires
planned_eval-requires g c = subst (λ (a : Item). IsPlan a c.in_ok-plan.plan) (sym c.parts.ensures) c.in_ok-plan.ensures.planned

pub returns-clause-evaluated : goal.returns-clause-evaluated
returns-clause-evaluated g c =
    subst (λ (a : Item). IfOk c.planned_eval.result (λ found. IsEvaluation a (view_world c.args.world.now) found)) c.parts.ensures c.planned_eval.ensures.evaluated

pub returns-clause-refused : goal.returns-clause-refused
returns-clause-refused g c =
    subst (λ (a : Item). IfErr c.planned_eval.result (λ error. IsEvalError a (view_world c.args.world.now) error)) c.parts.ensures c.planned_eval.ensures.refused
