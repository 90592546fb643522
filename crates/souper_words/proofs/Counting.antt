-- Lemmas on counts of bits.
use Rattle.std.proofs.Common.{◌≡◌, ℕ, zero, suc, ◌+◌, ◌-◌, ◌*◌, ◌/◌, ◌%◌, ◌^◌, ◌<◌, ◌≤◌, min, ◌∙◌, ap, arith, inl, inr, lit<}
use Rattle.std.specs.Int.Count.{under, count_leading_zeros, count_trailing_zeros, leading_unique}
use Rattle.std.proofs.lemmas.Nat.{leading_length}
use Rattle.std.proofs.Math.Nat.{mod-eq_of_lt, pow-suc}
use Rattle.std.proofs.Math.Pow.{pow_mono}
use Rattle.std.proofs.lemmas.Bool.{cases_lt}

below_power : (w : ℕ) → w < 2 ^ w
below_power zero = lit< tt
below_power (suc w) = let h : w < 2 ^ w = below_power w in let e : 2 ^ suc w ≡ 2 ^ w * 2 = pow-suc 2 w in omega arith

-- a count of w bits fits w bits
pub count_fits : (w n : ℕ) → n ≤ w → n % 2 ^ w ≡ n
count_fits w n h = let l : w < 2 ^ w = below_power w in mod-eq_of_lt (omega arith)

under-min : (d t w : ℕ) → min (under d t) (suc w) ≡ under d (min t w)
under-min zero t w = omega arith
under-min (suc d) t w = omega arith

-- of more bits as many zeros are counted, but for the number 0
pub trailing-min : (k w n : ℕ) → w ≤ k → min (count_trailing_zeros k n) w ≡ count_trailing_zeros w n
unfolding count_trailing_zeros
trailing-min zero zero n h = omega arith
trailing-min (suc k) zero n h = omega arith
trailing-min zero (suc w) n h = absurd (omega arith)
trailing-min (suc k) (suc w) n h =
    let l : w ≤ k = omega arith in
    under-min (n % 2) (count_trailing_zeros k (n / 2)) w ∙ ap (under (n % 2)) (trailing-min k w (n / 2) l)

length_below : (w n m : ℕ) → n < 2 ^ w → 2 ^ m ≤ 2 * n + 1 → m ≤ w
length_below w n m l h =
    elim (cases_lt w m) [
      | inl k ↦ absurd (let p : 2 ^ suc w ≤ 2 ^ m = pow_mono k in let e : 2 ^ suc w ≡ 2 ^ w * 2 = pow-suc 2 w in omega arith)
      | inr k ↦ k
    ]

top_length : (w n : ℕ) → w ≤ 128 → n < 2 ^ w → (m : ℕ) × (count_leading_zeros 128 n + m ≡ 128) × (m ≤ w) × (n < 2 ^ m) × (2 ^ m ≤ 2 * n + 1)
top_length w n h l =
    let p : 2 ^ w ≤ 2 ^ 128 = pow_mono h in
    let t = leading_length 128 n (omega arith) in
    (t.0, t.1, length_below w n t.0 l t.3, t.2, t.3)

pub leading_above : (w n : ℕ) → w ≤ 128 → n < 2 ^ w → 128 - w ≤ count_leading_zeros 128 n
leading_above w n h l = let t = top_length w n h l in omega (arith, t.1, t.2)

-- the zeros above w bits are not counted
pub leading-rest : (w n : ℕ) → w ≤ 128 → n < 2 ^ w → count_leading_zeros 128 n - (128 - w) ≡ count_leading_zeros w n
leading-rest w n h l =
    let t = top_length w n h l in
    leading_unique w n (count_leading_zeros 128 n - (128 - w)) t.0 (omega (arith, t.1, t.2)) t.3 t.4
