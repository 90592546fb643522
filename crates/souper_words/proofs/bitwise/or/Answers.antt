use Rattle.std.proofs.Common.{sym, ap}
use Rattle.std.proofs.Math.Nat.{mod-eq_of_lt}
use Rattle.std.proofs.lemmas.Nat.{or_lt}
use Rattle.souper_words.specs.declared.outcome.Outcome.TheVariants.{Number}
use Rattle.souper_words.proofs.bitwise.or.Goals as goal

pub returns : goal.returns
returns c = ap Number (sym (mod-eq_of_lt (or_lt c.args.width c.args.a c.args.b c.requires.fits_a c.requires.fits_b)))
