use Rattle.std.proofs.Common.{refl}
use Rattle.souper_typed.proofs.laws.law_of_written_examples.Goals as goal

pub returns-clause-typed : goal.returns-clause-typed
returns-clause-typed c = refl

pub returns-clause-complete : goal.returns-clause-complete
returns-clause-complete c = refl

pub returns-clause-unsigned : goal.returns-clause-unsigned
returns-clause-unsigned c = refl

pub returns-clause-signed : goal.returns-clause-signed
returns-clause-signed c = refl

pub returns-clause-stays : goal.returns-clause-stays
returns-clause-stays c = refl
