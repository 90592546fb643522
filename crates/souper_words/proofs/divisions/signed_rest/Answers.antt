use Rattle.std.proofs.Common.{◌∙◌, ap}
use Rattle.std.specs.Prelude.{int_rem}
use Rattle.std.specs.Int.{w128, cast_signed, cast_unsigned}
use Rattle.std.proofs.lemmas.Int.{rem_is}
use Rattle.souper_words.specs.Numbers.{signed, bits_of}
use Rattle.souper_words.proofs.Dividing.{signed_fits, int_rem-is}
use Rattle.souper_words.proofs.divisions.signed_rest.Goals as goal

pub returns : goal.returns
returns c =
    c.signed_bits.ensures
    ∙ ap (λ z. bits_of c.args.width (cast_signed w128 (cast_unsigned w128 (int_rem (cast_signed w128 (cast_unsigned w128 z)) (cast_signed w128 (cast_unsigned w128 c.signed_number-2.result)))))) c.signed_number.ensures
    ∙ ap (λ z. bits_of c.args.width (cast_signed w128 (cast_unsigned w128 (int_rem (cast_signed w128 (cast_unsigned w128 (signed c.args.width c.args.a))) (cast_signed w128 (cast_unsigned w128 z)))))) c.signed_number-2.ensures
    ∙ ap (bits_of c.args.width) (
    rem_is w128 (signed c.args.width c.args.a) (signed c.args.width c.args.b)
    (signed_fits c.args.width c.args.a c.requires.low c.requires.high c.requires.fits_a)
    (signed_fits c.args.width c.args.b c.requires.low c.requires.high c.requires.fits_b)
    ∙ int_rem-is (signed c.args.width c.args.a) (signed c.args.width c.args.b)
    )
