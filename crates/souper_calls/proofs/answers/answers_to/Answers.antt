use Rattle.std.proofs.Common.{refl, subst}
use Rattle.souper_graph.specs.Syntax.Spelling.{left_hand_side}
use Rattle.souper_calls.specs.Failures.{IsFailure}
use Rattle.souper_calls.proofs.Failures.{of_error}
use Rattle.souper_calls.proofs.answers.answers_to.Goals as goal

pub returns-in-Err-clause-failed : goal.returns-in-Err-clause-failed
returns-in-Err-clause-failed c =
    subst (λ source. IsFailure 0 source c.failure_of.result) c.in_ok-source.ensures.source
    (of_error 0 left_hand_side c.in_ok-source.source.now c.in-Err.error c.failure_of.result refl c.in-Err.ensures.refused c.failure_of.ensures)
