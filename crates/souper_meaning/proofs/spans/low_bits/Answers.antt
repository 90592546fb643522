use Rattle.std.proofs.Common.{◌≡◌, ◌∙◌, ◌*◌, ◌-◌, ◌%◌, ◌^◌, ◌≤◌, ℕ, sym, ap, arith}
use Rattle.std.specs.Prelude.{bit_and}
use Rattle.std.proofs.Math.Nat.{mod-eq_of_lt}
use Rattle.std.proofs.Math.Pow.{pow_mono}
use Rattle.std.proofs.lemmas.Nat.{one_shl, and_mask}
use Rattle.souper_meaning.proofs.spans.low_bits.Goals as goal

pub returns-then-width-ge128 : goal.returns-then-width-ge128
returns-then-width-ge128 c = let m : 2 ^ 128 ≤ 2 ^ c.args.width = pow_mono c.if-width-ge128.true in sym (mod-eq_of_lt (omega (arith, m, c.ranges.n.fits)))

pub returns-else-width-ge128 : goal.returns-else-width-ge128
returns-else-width-ge128 c =
    let e : (1 * 2 ^ c.args.width) % 2 ^ 128 ≡ 2 ^ c.args.width = one_shl c.args.width 128 c.if-width-ge128.false in
    ap (λ (z : ℕ). bit_and c.args.n (z - 1)) e ∙ and_mask c.args.n c.args.width
