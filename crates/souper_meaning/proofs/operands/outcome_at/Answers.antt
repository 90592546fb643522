use Rattle.std.proofs.Common.{arith}
use Rattle.souper_words.specs.declared.outcome.Outcome.TheVariants.{Undefined}
use Rattle.souper_meaning.proofs.operands.outcome_at.Goals as goal

pub returns-in-Some : goal.returns-in-Some
returns-in-Some c = c.in-Some.ensures.lookup.4 (omega arith) Undefined

pub returns-in-None : goal.returns-in-None
returns-in-None c = c.in-None.ensures.lookup.4 (omega arith) Undefined
