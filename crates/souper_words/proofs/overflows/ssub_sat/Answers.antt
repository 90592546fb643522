use Rattle.std.proofs.Common.{◌∙◌, ◌-◌, ◌≤◌, ◌-ℤ◌, ap, arith}
use Rattle.std.specs.Int.{w128, cast_signed, cast_unsigned, saturate_signed, saturate_to_bits}
use Rattle.std.proofs.lemmas.Int.{to_z-of_z}
use Rattle.souper_words.specs.declared.outcome.Outcome.TheVariants.{Number}
use Rattle.souper_words.specs.Numbers.{signed, bits_of}
use Rattle.souper_words.proofs.Saturating.{saturate_twice}
use Rattle.souper_words.proofs.overflows.ssub_sat.Goals as goal

pub returns : goal.returns
returns c =
    let l : c.args.width - 1 ≤ 127 = omega arith in
    ap Number (
    c.nearest.ensures
    ∙ ap (λ z. bits_of c.args.width (saturate_to_bits (c.args.width - 1) z)) (
    to_z-of_z w128 c.saturating_sub-difference.result (record { sfits = c.saturating_sub-difference.type_inv })
    ∙ c.saturating_sub-difference.ensures
    ∙ ap (λ z. saturate_signed w128 (z -ℤ cast_signed w128 (cast_unsigned w128 c.signed_number-2.result))) (to_z-of_z w128 c.signed_number.result (record { sfits = c.signed_number.type_inv }) ∙ c.signed_number.ensures)
    ∙ ap (λ z. saturate_signed w128 (signed c.args.width c.args.a -ℤ z)) (to_z-of_z w128 c.signed_number-2.result (record { sfits = c.signed_number-2.type_inv }) ∙ c.signed_number-2.ensures)
    )
    ∙ ap (bits_of c.args.width) (saturate_twice (c.args.width - 1) (signed c.args.width c.args.a -ℤ signed c.args.width c.args.b) l)
    )
