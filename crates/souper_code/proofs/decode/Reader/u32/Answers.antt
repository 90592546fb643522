use Rattle.std.proofs.Common.{rules, arith}
use Rattle.souper_code.proofs.Numbers.{u32_front, u32_length}
use Rattle.souper_code.proofs.decode.Reader.u32.Goals as goal

pub returns-in-None-clause-only : goal.returns-in-None-clause-only
returns-in-None-clause-only c = λ n rest less e. absurd (omega (arith, u32_length _ _ n e, c.in-None.ensures.cases))

pub returns-in-Some-clause-only : goal.returns-in-Some-clause-only
returns-in-Some-clause-only c = λ n rest less e. u32_front _ c.in-Some.bytes.now _ rest _ n (search rules) (search rules) c.u32_of.ensures.value less e
