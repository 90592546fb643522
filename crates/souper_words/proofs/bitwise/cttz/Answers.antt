use Rattle.std.proofs.Common.{◌∙◌, sym, ap}
use Rattle.std.specs.Int.Count.{count_trailing_zeros}
use Rattle.std.proofs.lemmas.Nat.{trailing_le}
use Rattle.souper_words.specs.declared.outcome.Outcome.TheVariants.{Number}
use Rattle.souper_words.proofs.Counting.{count_fits, trailing-min}
use Rattle.souper_words.proofs.bitwise.cttz.Goals as goal

pub returns : goal.returns
returns c =
    ap Number (
    c.min.ensures ∙ trailing-min 128 c.args.width c.args.a c.requires.high
    ∙ sym (count_fits c.args.width (count_trailing_zeros c.args.width c.args.a) (trailing_le c.args.width c.args.a))
    )
