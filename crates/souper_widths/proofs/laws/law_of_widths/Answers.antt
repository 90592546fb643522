use Rattle.souper_widths.proofs.Flawless.{typed-flawless}
use Rattle.souper_widths.proofs.OneFlaw.{one-flaw}
use Rattle.souper_widths.proofs.laws.law_of_widths.Goals as goal

pub returns-clause-one_map : goal.returns-clause-one_map
returns-clause-one_map c = λ a m n t s. t.only n s.has

pub returns-clause-flawless : goal.returns-clause-flawless
returns-clause-flawless c = λ a m flaw t f. typed-flawless a m flaw.location flaw.reason t f

pub returns-clause-one_flaw : goal.returns-clause-one_flaw
returns-clause-one_flaw c = λ a f g h k. one-flaw a f g h k
