-- Lemmas on pairs, and on numbers that saturate.
use Rattle.std.proofs.Common.{◌≡◌, ℕ, ◌+◌, ◌-◌, ◌*◌, ◌%◌, ◌^◌, ◌<◌, ◌≤◌, Bool, true, false, cond, min, ℤ, pos, negsuc, leb, sym, ◌∙◌, ap, arith, inl, inr}
use Rattle.std.specs.Int.{saturate_to_bits}
use Rattle.std.proofs.lemmas.Nat.{pow_pos, pow-add, one_shl}
use Rattle.std.proofs.Math.Nat.{mod-eq_of_lt}
use Rattle.std.proofs.Math.Pow.{pow_mono}
use Rattle.std.proofs.lemmas.Bool.Decides.{leb_tells}
use Rattle.souper_words.specs.Numbers.{bits_of}

pub saturate_twice : (h : ℕ) (z : ℤ) → h ≤ 127 → saturate_to_bits h (saturate_to_bits 127 z) ≡ saturate_to_bits h z
saturate_twice h (pos n) l = let p : 2 ^ h ≤ 2 ^ 127 = pow_mono l in ap pos (let e : min (min n (2 ^ 127 - 1)) (2 ^ h - 1) ≡ min n (2 ^ h - 1) = omega arith in e)
saturate_twice h (negsuc n) l = let p : 2 ^ h ≤ 2 ^ 127 = pow_mono l in ap negsuc (let e : min (min n (2 ^ 127 - 1)) (2 ^ h - 1) ≡ min n (2 ^ h - 1) = omega arith in e)

pub least_of_both : (w n : ℕ) → w ≤ 128 → min (min n (2 ^ 128 - 1)) (2 ^ w - 1) ≡ min n (2 ^ w - 1) % 2 ^ w
least_of_both w n h =
    let p : 2 ^ w ≤ 2 ^ 128 = pow_mono h in
    let q : 0 < 2 ^ w = pow_pos w in
    let e : min (min n (2 ^ 128 - 1)) (2 ^ w - 1) ≡ min n (2 ^ w - 1) = omega arith in
    let l : min n (2 ^ w - 1) < 2 ^ w = omega arith in
    e ∙ sym (mod-eq_of_lt l)

pub rest_or_zero : (w a b : ℕ) → a < 2 ^ w → a - b ≡ cond (leb b a) (a - b) 0 % 2 ^ w
rest_or_zero w a b h =
    let q : 0 < 2 ^ w = pow_pos w in
    let l : a - b < 2 ^ w = omega arith in
    elim (leb_tells b a) [
      | inl t ↦ sym (ap (λ x. cond x (a - b) 0 % 2 ^ w) t.0 ∙ mod-eq_of_lt l)
      | inr t ↦ (let e : a - b ≡ 0 = omega (arith, t.1) in e) ∙ sym (ap (λ x. cond x (a - b) 0 % 2 ^ w) t.0 ∙ mod-eq_of_lt q)
    ]

-- the bit above w bits
pub high_bit : (w : ℕ) → w ≤ 127 → 1 * 2 ^ w % 2 ^ 128 ≡ 2 ^ w
high_bit w h = one_shl w 128 (omega arith)

pub pair_below : (w n : ℕ) → n < 2 ^ w → n + 2 ^ w < 2 ^ (w + 1)
pair_below w n h = let e : 2 ^ (w + 1) ≡ 2 ^ w * 2 = pow-add 2 w 1 in omega arith

pub pair_fits : (w n : ℕ) → w ≤ 127 → n < 2 ^ w → n + 1 * 2 ^ w % 2 ^ 128 < 2 ^ 128
pair_fits w n h l =
    let k : w + 1 ≤ 128 = omega arith in
    let p : 2 ^ (w + 1) ≤ 2 ^ 128 = pow_mono k in
    let q : n + 2 ^ w < 2 ^ (w + 1) = pair_below w n l in
    rw (high_bit w h) (omega arith)

pub pair_with : (w n : ℕ) (o : Bool) → w ≤ 127 → n < 2 ^ w → o ≡ true → n + 1 * 2 ^ w % 2 ^ 128 ≡ (n + cond o (2 ^ w) 0) % 2 ^ (w + 1)
pair_with w n o h l e =
    ap (λ m. n + m) (high_bit w h) ∙ sym (ap (λ t. (n + cond t (2 ^ w) 0) % 2 ^ (w + 1)) e ∙ mod-eq_of_lt (pair_below w n l))

pub pair_without : (w n : ℕ) (o : Bool) → n < 2 ^ w → o ≡ false → n ≡ (n + cond o (2 ^ w) 0) % 2 ^ (w + 1)
pair_without w n o l e =
    let q : n + 2 ^ w < 2 ^ (w + 1) = pair_below w n l in
    let k : n + 0 < 2 ^ (w + 1) = omega arith in
    let z : n + 0 ≡ n = omega arith in
    sym (ap (λ t. (n + cond t (2 ^ w) 0) % 2 ^ (w + 1)) e ∙ mod-eq_of_lt k ∙ z)

pub bits_of_below : (w : ℕ) (z : ℤ) → bits_of w z < 2 ^ w
bits_of_below w (pos k) = let q : 0 < 2 ^ w = pow_pos w in omega arith
bits_of_below w (negsuc k) = let q : 0 < 2 ^ w = pow_pos w in omega arith
