use Rattle.std.proofs.Common.{◌∙◌, ◌/◌, ◌-◌, ◌^◌, sym, ap}
use Rattle.std.proofs.Math.Nat.{mod-eq_of_lt}
use Rattle.souper_words.specs.declared.outcome.Outcome.TheVariants.{Number}
use Rattle.souper_words.proofs.Reversing.{bytes_reversed, bytes-below}
use Rattle.souper_words.proofs.bitwise.bswap.Goals as goal

pub returns : goal.returns
returns c =
    ap Number (
    ap (λ n. n / 2 ^ (128 - c.args.width)) c.swap_bytes.ensures ∙ bytes_reversed c.args.width c.args.a c.requires.high c.requires.bytes c.requires.fits_a
    ∙ sym (mod-eq_of_lt (bytes-below c.args.width c.args.a c.requires.bytes))
    )
