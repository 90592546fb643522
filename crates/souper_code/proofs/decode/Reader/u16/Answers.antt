use Rattle.std.proofs.Common.{rules, arith}
use Rattle.souper_code.proofs.Numbers.{u16_front, u16_length}
use Rattle.souper_code.proofs.decode.Reader.u16.Goals as goal

pub returns-in-None-clause-only : goal.returns-in-None-clause-only
returns-in-None-clause-only c = λ n rest less e. absurd (omega (arith, u16_length _ _ n e, c.in-None.ensures.cases))

pub returns-in-Some-clause-only : goal.returns-in-Some-clause-only
returns-in-Some-clause-only c = λ n rest less e. u16_front _ c.in-Some.bytes.now _ rest _ n (search rules) (search rules) c.u16_of.ensures.value less e
