use Rattle.std.proofs.Common.{[], refl}
use Rattle.souper_calls.specs.declared.answers.Groups.{Groups}
use Rattle.souper_calls.proofs.answers.groups_of_source.Goals as goal

pub returns-clause-answered : goal.returns-clause-answered
returns-clause-answered c = λ entries h.
    let taken = c.in_ok-parse_into.ensures.taken in
    let first : Groups = record { alloc = c.args.alloc; store = c.args.store; out = c.new.result } in
    (taken.0, taken.1, (taken.2 first [] (refl, λ es s. c.new.ensures.bytes)).1 entries h)
