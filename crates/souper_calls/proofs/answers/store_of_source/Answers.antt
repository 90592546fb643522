use Rattle.std.proofs.Common.{[], refl}
use Rattle.souper_calls.proofs.answers.store_of_source.Goals as goal

pub returns-clause-stores : goal.returns-clause-stores
returns-clause-stores c =
    let taken = c.in_ok-parse_into.ensures.taken in
    let (now, added, stores) = taken.2 c.new-store.result [] (λ entries s. (entries, refl, s)) [] c.new-store.ensures in
    (now, (taken.0, taken.1, added), stores)
