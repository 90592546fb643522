use Rattle.std.proofs.Common.{◌∙◌, sym, ap}
use Rattle.std.specs.Int.Count.{count_leading_zeros}
use Rattle.std.proofs.lemmas.Nat.{leading_le}
use Rattle.souper_words.specs.declared.outcome.Outcome.TheVariants.{Number}
use Rattle.souper_words.proofs.Counting.{count_fits, leading-rest, leading_above}
use Rattle.souper_words.proofs.bitwise.ctlz.Goals as goal

pub overflow_sub-result-2 : goal.overflow_sub-result-2
overflow_sub-result-2 c = leading_above c.args.width c.args.a c.requires.high c.requires.fits_a

pub returns : goal.returns
returns c =
    ap Number (
    leading-rest c.args.width c.args.a c.requires.high c.requires.fits_a
    ∙ sym (count_fits c.args.width (count_leading_zeros c.args.width c.args.a) (leading_le c.args.width c.args.a))
    )
