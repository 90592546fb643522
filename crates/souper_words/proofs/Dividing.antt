-- Lemmas on quotients and rests.
use Rattle.std.proofs.Common.{◌≡◌, ℕ, zero, suc, ◌+◌, ◌-◌, ◌*◌, ◌/◌, ◌%◌, ◌^◌, ◌<◌, ◌≤◌, Bool, true, false, cond, ◌||◌, ◌&&◌, eqb, ℤ, pos, negsuc, ◌+ℤ◌, ◌-ℤ◌, ◌*ℤ◌, neg_ℤ, refl, sym, ◌∙◌, ap, arith, inl, inr}
use Rattle.std.specs.Prelude.{FitsSigned, int_div, int_rem}
use Rattle.std.specs.Int.{w128}
use Rattle.std.specs.Int.Signed.{mag}
use Rattle.std.proofs.lemmas.Int.{ints, quot-rem}
use Rattle.std.proofs.Math.Nat.{div-le_self, mod-eq_of_lt, mod-eq-sub-mul-div, mul-div-le, div-lt_self}
use Rattle.std.proofs.Math.IntN.{*ℤ_comm}
use Rattle.std.proofs.Math.Pow.{pow_mono}
use Rattle.std.proofs.lemmas.Bool.{cases_lt}
use Rattle.std.proofs.lemmas.Bool.Decides.{eqb_tells}
use Rattle.souper_words.specs.declared.outcome.Outcome.TheVariants.{Number, Poison, Undefined}
use Rattle.souper_words.specs.Numbers.{signed, bits_of}
use Rattle.souper_words.specs.Words.{row_outcome, divides_out}
use Rattle.souper_words.proofs.Signed.{signed-low, signed-high, minus_below, power_twice}

pub quotient_small : (w a b : ℕ) → a < 2 ^ w → a / b % 2 ^ w ≡ a / b
quotient_small w a b h = let l : a / b ≤ a = div-le_self a b in mod-eq_of_lt (omega arith)

-- a rest is what the quotient leaves
pub rest_bits : (w a b : ℕ) → a < 2 ^ w → bits_of w (pos a -ℤ pos (b * (a / b))) ≡ a % b
rest_bits w a b h =
    let e : a % b ≡ a - b * (a / b) = mod-eq-sub-mul-div a b in
    let s : a - b * (a / b) < 2 ^ w = omega arith in
    ap (bits_of w) (minus_below a (b * (a / b)) (mul-div-le a b)) ∙ mod-eq_of_lt s ∙ sym e

-- a row whose last column fails
pub row_defined : (w : ℕ) (z : ℤ) (p u : Bool) → u ≡ false → row_outcome w (z, p, u) ≡ cond p Poison (Number (bits_of w z))
row_defined w z p u e = ap (λ t. cond t Undefined (cond p Poison (Number (bits_of w z)))) e

sum_less : (p r z : ℤ) → p +ℤ r ≡ z → z -ℤ p ≡ r
sum_less p r z e = omega (arith, ints)

pub int_rem-is : (z d : ℤ) → int_rem z d ≡ z -ℤ d *ℤ int_div z d
int_rem-is z d = sym (ap (λ x. z -ℤ x) (*ℤ_comm d (int_div z d)) ∙ sum_less (int_div z d *ℤ d) (int_rem z d) z (quot-rem z d))

mag-negative_le : (n m : ℕ) → n ≤ suc m → mag (neg_ℤ (pos n)) ≤ m
mag-negative_le zero m h = omega arith
mag-negative_le (suc n) m h = omega arith

mag-quotient : (z d : ℤ) (h : ℕ) → mag z < h → ((k : ℕ) → z ≡ negsuc k → d ≡ negsuc 0 → suc k < h) → mag (int_div z d) < h
mag-quotient (pos a) (pos b) h l f = let q : a / b ≤ a = div-le_self a b in omega arith
mag-quotient (pos a) (negsuc b) h l f =
    let q : a / suc b ≤ a = div-le_self a (suc b) in
    let m : mag (neg_ℤ (pos (a / suc b))) ≤ a = mag-negative_le (a / suc b) a (omega arith) in omega arith
mag-quotient (negsuc a) (pos b) h l f =
    let q : suc a / b ≤ suc a = div-le_self (suc a) b in
    let m : mag (neg_ℤ (pos (suc a / b))) ≤ a = mag-negative_le (suc a / b) a q in omega arith
mag-quotient (negsuc a) (negsuc zero) h l f =
    let q : suc a / 1 ≤ suc a = div-le_self (suc a) 1 in
    let m : suc a < h = f a refl refl in omega arith
mag-quotient (negsuc a) (negsuc (suc b)) h l f =
    let q : suc a / suc (suc b) < suc a = div-lt_self (omega arith) (omega arith) in omega arith

pub mag-signed : (w n : ℕ) → 1 ≤ w → n < 2 ^ w → mag (signed w n) < 2 ^ (w - 1)
mag-signed w n h l =
    let e : 2 ^ w ≡ 2 ^ (w - 1) + 2 ^ (w - 1) = power_twice w h in
    elim (cases_lt n (2 ^ (w - 1))) [
      | inl k ↦ rw (signed-low w n k) k
      | inr k ↦ rw (signed-high w n k l) (omega arith)
    ]

signed-negative : (w n k : ℕ) → n < 2 ^ w → signed w n ≡ negsuc k → (2 ^ (w - 1) ≤ n) × (k ≡ 2 ^ w - 1 - n)
signed-negative w n k l e =
    elim (cases_lt n (2 ^ (w - 1))) [
      | inl h ↦ absurd (let g : pos n ≡ negsuc k = sym (signed-low w n h) ∙ e in cc)
      | inr h ↦ (h, let g : negsuc k ≡ negsuc (2 ^ w - 1 - n) = sym e ∙ signed-high w n h l in cc)
    ]

or_and : (x y z : Bool) → (x || (y && z)) ≡ false → y ≡ true → z ≡ true → ⊥
or_and true y z e f g = cc
or_and false true true e f g = cc
or_and false true false e f g = cc
or_and false false z e f g = cc

eqb-same : (m n : ℕ) → m ≡ n → eqb m n ≡ true
eqb-same m n e = grind (arith, eqb_tells)

pub eqb-zero : (n : ℕ) → ¬ (n ≡ 0) → eqb n 0 ≡ false
eqb-zero n h = grind (arith, eqb_tells)

-- the least number is not divided by -1
not_least : (w a b k : ℕ) → 1 ≤ w → a < 2 ^ w → b < 2 ^ w → divides_out w a b ≡ false → signed w a ≡ negsuc k → signed w b ≡ negsuc 0 → suc k < 2 ^ (w - 1)
not_least w a b k h p q e f g =
    let t : 2 ^ w ≡ 2 ^ (w - 1) + 2 ^ (w - 1) = power_twice w h in
    let x = signed-negative w a k p f in
    let y = signed-negative w b 0 q g in
    let z : ¬ (a ≡ 2 ^ (w - 1)) = λ i. or_and (eqb b 0) (eqb a (2 ^ (w - 1))) (eqb b (2 ^ w - 1)) e (eqb-same a (2 ^ (w - 1)) i) (eqb-same b (2 ^ w - 1) (omega (arith, y.1))) in
    omega (arith, x.0, x.1, z)

pub signed_fits : (w n : ℕ) → 1 ≤ w → w ≤ 128 → n < 2 ^ w → FitsSigned w128 (signed w n)
signed_fits w n h k l =
    let j : w - 1 ≤ 127 = omega arith in
    let p : 2 ^ (w - 1) ≤ 2 ^ 127 = pow_mono j in
    let m : mag (signed w n) < 2 ^ (w - 1) = mag-signed w n h l in
    record { sfits = omega arith }

-- the quotient of two numbers of w bits fits 128, but for the least by -1
pub quotient_fits : (w a b : ℕ) → 1 ≤ w → w ≤ 128 → a < 2 ^ w → b < 2 ^ w → divides_out w a b ≡ false → FitsSigned w128 (int_div (signed w a) (signed w b))
quotient_fits w a b h k p q e =
    let j : w - 1 ≤ 127 = omega arith in
    let t : 2 ^ (w - 1) ≤ 2 ^ 127 = pow_mono j in
    let m : mag (int_div (signed w a) (signed w b)) < 2 ^ (w - 1) = mag-quotient (signed w a) (signed w b) (2 ^ (w - 1)) (mag-signed w a h p) (λ k f g. not_least w a b k h p q e f g) in
    record { sfits = omega arith }
