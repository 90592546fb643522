use Rattle.std.proofs.Common.{ap, ◌∙◌, ◌%◌, ◌^◌}
use Rattle.std.specs.Int.{w128, cast_unsigned}
use Rattle.std.proofs.lemmas.Int.{to_z-of_z}
use Rattle.souper_words.proofs.Signed.{bits_of-cast}
use Rattle.souper_words.proofs.bits.signed_bits.Goals as goal

pub returns : goal.returns
returns c =
    c.low_bits.ensures
    ∙ ap (λ n. n % 2 ^ c.args.width) (c.cast_unsigned.ensures ∙ ap (cast_unsigned w128) (to_z-of_z w128 c.args.z c.ranges.z))
    ∙ bits_of-cast c.args.width c.args.z c.requires.high c.ranges.z
