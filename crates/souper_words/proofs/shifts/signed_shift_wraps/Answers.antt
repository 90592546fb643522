use Rattle.std.proofs.Common.{◌∙◌, ◌-◌, ap}
use Rattle.std.specs.Int.{w128}
use Rattle.std.proofs.lemmas.Int.{to_z-of_z}
use Rattle.souper_words.specs.Numbers.{signed, is_out}
use Rattle.souper_words.proofs.Shifting.{is_out-shifted}
use Rattle.souper_words.proofs.shifts.signed_shift_wraps.Goals as goal

pub returns : goal.returns
returns c =
    c.has_more_bits.ensures
    ∙ ap (is_out (c.args.width - c.args.b)) (to_z-of_z w128 c.signed_number.result (record { sfits = c.signed_number.type_inv }) ∙ c.signed_number.ensures)
    ∙ is_out-shifted c.args.width c.args.b (signed c.args.width c.args.a) c.requires.within
