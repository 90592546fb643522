use Rattle.std.proofs.Common.{◌∙◌, ◌/◌, ◌-◌, ◌^◌, sym, ap, arith}
use Rattle.std.proofs.Math.Nat.{mod-eq_of_lt}
use Rattle.souper_words.specs.declared.outcome.Outcome.TheVariants.{Number}
use Rattle.souper_words.proofs.Reversing.{bits_reversed, reversed-below}
use Rattle.souper_words.proofs.bitwise.bitreverse.Goals as goal

pub returns : goal.returns
returns c =
    ap Number (
    ap (λ n. n / 2 ^ (128 - c.args.width)) c.reverse_bits.ensures ∙ bits_reversed c.args.width c.args.a c.requires.high c.requires.fits_a
    ∙ sym (mod-eq_of_lt (reversed-below 2 c.args.width c.args.a (omega arith)))
    )
