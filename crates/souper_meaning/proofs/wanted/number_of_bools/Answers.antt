use Rattle.std.proofs.Common.{◌∙◌, ◌+◌, ◌*◌, ◌^◌, ◌<◌, ◌≤◌, ℕ, false, get_or, sym, ap, subst, arith}
use Rattle.std.proofs.lemmas.List.{get_or_default}
use Rattle.souper_meaning.proofs.WantedBits.{bit_small, bit_from, bits_fit, bits_step}
use Rattle.souper_meaning.proofs.wanted.number_of_bools.Goals as goal

pub overflow_mul-number : goal.overflow_mul-number
overflow_mul-number c =
    let h : c.loop-bit.number * 2 + 1 < 2 ^ 128 = bits_fit c.args.bits.now c.loop-bit.bit-index c.loop-bit.number c.loop-bit-test.true c.requires c.loop-bit.invariant in
    omega (arith, h)

pub overflow_add-number : goal.overflow_add-number
overflow_add-number c =
    let h : c.loop-bit.number * 2 + 1 < 2 ^ 128 = bits_fit c.args.bits.now c.loop-bit.bit-index c.loop-bit.number c.loop-bit-test.true c.requires c.loop-bit.invariant in
    let b : c.from.result ≤ 1 = subst (λ (z : ℕ). z ≤ 1) (sym c.from.ensures) (bit_small (get_or c.args.bits.now c.loop-bit.bit-index false)) in
    omega (arith, h, b)

pub loop-bit-preserved : goal.loop-bit-preserved
loop-bit-preserved c =
    ap (λ (z : ℕ). c.loop-bit.number * 2 + z) (c.from.ensures ∙ bit_from (get_or c.args.bits.now c.loop-bit.bit-index false))
    ∙ bits_step c.args.bits.now c.loop-bit.bit-index c.loop-bit.number (get_or c.args.bits.now c.loop-bit.bit-index false) c.loop-bit-test.true (get_or_default c.args.bits.now c.loop-bit.bit-index false (get_or c.args.bits.now c.loop-bit.bit-index false) c.loop-bit-test.true) c.loop-bit.invariant
