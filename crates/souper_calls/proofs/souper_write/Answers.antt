use Rattle.std.proofs.Common.{rules, ◌≡◌, Some}
use Rattle.souper_ir.specs.Kinds.{item_type_of}
use Rattle.souper_calls.specs.Kinds.{type_of_number}
use Rattle.souper_calls.proofs.Writing.{only_memory}
use Rattle.souper_calls.proofs.souper_write.Goals as goal

pub returns-in-Err-clause-well_formed : goal.returns-in-Err-clause-well_formed
returns-in-Err-clause-well_formed c = λ given.
    let kind : type_of_number c.args.kind ≡ Some (item_type_of c.in-Some.kind) = search rules in
    rw c.outcome_of_stop.ensures (only_memory _ _ c.in-Err.error c.in-Err.ensures.stopped (rw kind at given))
