use Rattle.std.proofs.Common.{◌≡◌, ℕ, ◌-◌, ◌<◌, ◌^◌, sym, ap, subst, ◌∙◌, arith, negsuc}
use Rattle.std.specs.Int.{w128}
use Rattle.std.proofs.lemmas.Int.{to_z-of_z}
use Rattle.souper_widths.specs.Limits.{FitsWidth, bits_of}
use Rattle.souper_widths.proofs.Powers.{whole-power, below-half, negative-bits}
use Rattle.souper_widths.proofs.limits.bits.Goals as goal

pub overflow_sub-result-else-number-ge0 : goal.overflow_sub-result-else-number-ge0
overflow_sub-result-else-number-ge0 c =
    let k : ℕ = c.below_minus_one.result in
    let w : ℕ = c.args.width in
    let e : c.args.number ≡ negsuc k = sym (to_z-of_z w128 c.args.number c.ranges.number) ∙ c.below_minus_one.ensures in
    let f : k < 2 ^ (w - 1) = subst (FitsWidth w) e c.requires.fits in
    omega (arith, below-half w k f, whole-power w c.requires.narrow)

pub returns-else-number-ge0 : goal.returns-else-number-ge0
returns-else-number-ge0 c =
    let k : ℕ = c.below_minus_one.result in
    let w : ℕ = c.args.width in
    let e : c.args.number ≡ negsuc k = sym (to_z-of_z w128 c.args.number c.ranges.number) ∙ c.below_minus_one.ensures in
    let f : k < 2 ^ (w - 1) = subst (FitsWidth w) e c.requires.fits in
    ap (λ (z : ℕ). z - 1 - k) (whole-power w c.requires.narrow) ∙ negative-bits w k f ∙ ap (bits_of w) (sym e)
