use Rattle.std.proofs.Common.{subst}
use Rattle.souper_ir.specs.Kinds.{item_type_of}
use Rattle.souper_calls.specs.Failures.{IsFailure}
use Rattle.souper_calls.proofs.Failures.{of_error}
use Rattle.souper_calls.proofs.records.records.Goals as goal

pub returns-in-Err-clause-failed : goal.returns-in-Err-clause-failed
returns-in-Err-clause-failed c =
    subst (λ source. IsFailure c.args.kind source c.failure_of.result) c.in_ok-kind.ensures.source
    (of_error c.args.kind (item_type_of c.in_ok-kind.kind) c.in_ok-kind.source.now c.in-Err.error c.failure_of.result
    c.in_ok-kind.ensures.kind c.in-Err.ensures.refused c.failure_of.ensures)
