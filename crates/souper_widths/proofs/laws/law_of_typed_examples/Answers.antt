use Rattle.souper_widths.proofs.Examples.{doubled-typed, typed_later-typed, overflow-typed}
use Rattle.souper_widths.proofs.laws.law_of_typed_examples.Goals as goal

pub returns-clause-doubled : goal.returns-clause-doubled
returns-clause-doubled c = doubled-typed

pub returns-clause-later : goal.returns-clause-later
returns-clause-later c = typed_later-typed

pub returns-clause-overflow : goal.returns-clause-overflow
returns-clause-overflow c = overflow-typed
