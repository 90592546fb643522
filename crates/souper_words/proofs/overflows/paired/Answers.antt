use Rattle.std.proofs.Common.{ap}
use Rattle.souper_words.specs.declared.outcome.Outcome.TheVariants.{Number}
use Rattle.souper_words.proofs.Saturating.{pair_fits, pair_with, pair_without}
use Rattle.souper_words.proofs.overflows.paired.Goals as goal

pub overflow_add-result : goal.overflow_add-result
overflow_add-result c = record { fits = pair_fits c.args.width c.args.n c.requires.high c.requires.fits }

pub returns-then-overflow : goal.returns-then-overflow
returns-then-overflow c = ap Number (pair_with c.args.width c.args.n c.args.overflow c.requires.high c.requires.fits c.if-overflow.true)

pub returns-else-overflow : goal.returns-else-overflow
returns-else-overflow c = ap Number (pair_without c.args.width c.args.n c.args.overflow c.requires.fits c.if-overflow.false)
