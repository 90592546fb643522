use Rattle.std.proofs.Common.{rules, arith}
use Rattle.souper_code.proofs.Numbers.{size_front, size_length}
use Rattle.souper_code.proofs.decode.Reader.size.Goals as goal

pub returns-in-None-clause-only : goal.returns-in-None-clause-only
returns-in-None-clause-only c = λ n rest less e. absurd (omega (arith, size_length _ _ n e, c.in-None.ensures.cases))

pub returns-in-Some-clause-only : goal.returns-in-Some-clause-only
returns-in-Some-clause-only c = λ n rest less e. size_front _ c.in-Some.bytes.now _ rest _ n (search rules) (search rules) c.size_of.ensures.value less e
