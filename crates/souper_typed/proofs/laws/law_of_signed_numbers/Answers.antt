use Rattle.std.proofs.Common.{refl}
use Rattle.souper_typed.proofs.WrittenNumbers.{signed-bits, signed-fits, signed-below, same-signed}
use Rattle.souper_typed.proofs.laws.law_of_signed_numbers.Goals as goal

pub returns-clause-bits : goal.returns-clause-bits
returns-clause-bits c = λ n x. signed-bits n x

pub returns-clause-fits : goal.returns-clause-fits
returns-clause-fits c = λ n x h. signed-fits n x h

pub returns-clause-below : goal.returns-clause-below
returns-clause-below c = λ n k x h e. signed-below n k x h e

pub returns-clause-one : goal.returns-clause-one
returns-clause-one c = λ n x y l h k e. same-signed n x y l h k e

pub returns-clause-example : goal.returns-clause-example
returns-clause-example c = refl
