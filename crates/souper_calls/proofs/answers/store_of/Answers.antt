use Rattle.std.proofs.Common.{refl, subst}
use Rattle.souper_graph.specs.Syntax.Spelling.{replacement}
use Rattle.souper_calls.specs.Failures.{IsFailure}
use Rattle.souper_calls.proofs.Failures.{of_error}
use Rattle.souper_calls.proofs.answers.store_of.Goals as goal

pub returns-in-Err-clause-failed : goal.returns-in-Err-clause-failed
returns-in-Err-clause-failed c =
    subst (λ source. IsFailure 2 source c.failure_of.result) c.in_ok-source.ensures.source
    (of_error 2 replacement c.in_ok-source.source.now c.in-Err.error c.failure_of.result refl c.in-Err.ensures.refused c.failure_of.ensures)
