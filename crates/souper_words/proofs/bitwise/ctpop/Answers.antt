use Rattle.std.proofs.Common.{sym, ap}
use Rattle.std.specs.Prelude.{count_ones}
use Rattle.std.proofs.lemmas.Nat.{ones-le}
use Rattle.souper_words.specs.declared.outcome.Outcome.TheVariants.{Number}
use Rattle.souper_words.proofs.Counting.{count_fits}
use Rattle.souper_words.proofs.bitwise.ctpop.Goals as goal

pub returns : goal.returns
returns c = ap Number (sym (count_fits c.args.width (count_ones c.args.a) (ones-le c.args.width c.args.a c.requires.fits_a)))
