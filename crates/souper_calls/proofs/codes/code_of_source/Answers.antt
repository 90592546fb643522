use Rattle.std.proofs.Common.{[]}
use Rattle.souper_calls.proofs.codes.code_of_source.Goals as goal

pub returns-clause-coded : goal.returns-clause-coded
returns-clause-coded g c =
    let taken = c.in_ok-parse_into.ensures.taken in
    (taken.0, taken.1, taken.2 c.parse_into.new.sink [] c.new.ensures.items)
