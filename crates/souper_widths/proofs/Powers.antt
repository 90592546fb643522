-- Numbers below powers of 2.
use Rattle.std.proofs.Common.{◌≡◌, ◌≢◌, ℕ, ◌+◌, ◌-◌, ◌*◌, ◌<◌, ◌≤◌, ◌/◌, ◌%◌, ◌^◌, ◌↔◌, true, inl, inr, sym, ap, ◌∙◌, arith, eq-eqb, nat_eq}
use Rattle.std.specs.Prelude.{IsTrue, nat_le, ℤ, pos, negsuc, FitsSigned}
use Rattle.std.specs.Int.{w128}
use Rattle.souper_widths.specs.Limits.{bits_of, IsRange}
use Rattle.std.proofs.lemmas.Bool.Decides.{eqb_tells, leb_tells}
use Rattle.std.proofs.Math.Pow.{pow_mono, pow_pos, pow-lt}
use Rattle.std.proofs.Math.Nat.{div-eq_of_lt, div-lt_iff_lt-mul, mod-eq_of_lt}

true-le : (a b : ℕ) → a ≤ b → nat_le a b ≡ true
true-le a b h = elim (leb_tells a b) [ inl t ↦ t.0 | inr t ↦ absurd (omega (arith, t.1, h)) ]

eq-of_true : (a b : ℕ) → nat_eq a b ≡ true → a ≡ b
eq-of_true a b h = elim (eqb_tells a b) [ inl t ↦ t.1 | inr t ↦ absurd (cc (h, t.0)) ]

-- a power that is as large as all numbers
pub below-large : (n b p : ℕ) → n < 2 ^ b → b ≤ p → IsTrue (nat_le b p) ↔ (n < 2 ^ p)
below-large n b p h l = ((λ _. let m : 2 ^ b ≤ 2 ^ p = pow_mono l in omega (arith, m, h)), (λ _. true-le b p l))

-- no bit is left
pub below-shifted : (n p : ℕ) → IsTrue (nat_eq (n / 2 ^ p) 0) ↔ (n < 2 ^ p)
below-shifted n p = (to, λ h. eq-eqb (n / 2 ^ p) 0 (div-eq_of_lt h))
  where
    to : IsTrue (nat_eq (n / 2 ^ p) 0) → n < 2 ^ p
    to t =
        let e : n / 2 ^ p ≡ 0 = eq-of_true (n / 2 ^ p) 0 t in
        let l : n / 2 ^ p < 1 = omega (arith, e) in
        let m : n < 1 * 2 ^ p = (div-lt_iff_lt-mul {k = 2 ^ p} {x = n} {y = 1} (pow_pos p)).0 l in
        omega (arith, m)

-- a power that 128 bits have
pub whole-power : (w : ℕ) → w < 128 → 1 * 2 ^ w % 2 ^ 128 ≡ 2 ^ w
whole-power w h =
    let l : 2 ^ w < 2 ^ 128 = pow-lt h in
    let one : 1 * 2 ^ w ≡ 2 ^ w = omega arith in
    ap (λ (z : ℕ). z % 2 ^ 128) one ∙ mod-eq_of_lt l

-- what is below a half is below the whole
pub below-half : (w k : ℕ) → k < 2 ^ (w - 1) → k + 1 ≤ 2 ^ w
below-half w k h =
    let m : 2 ^ (w - 1) ≤ 2 ^ w = pow_mono (omega arith) in
    omega (arith, m, h)

pub negative-bits : (w k : ℕ) → k < 2 ^ (w - 1) → 2 ^ w - 1 - k ≡ bits_of w (negsuc k)
negative-bits w k h =
    let l : k + 1 ≤ 2 ^ w = below-half w k h in
    let e : k % 2 ^ w ≡ k = mod-eq_of_lt (omega (arith, l)) in
    ap (λ (z : ℕ). 2 ^ w - 1 - z) (sym e)

-- a number of 128 bits at a width that has them
wide-positive : (w k : ℕ) → 128 ≤ w → FitsSigned w128 (pos k) → (bits_of w (pos k) ≡ k) × (k < 2 ^ 127) × (2 ^ 128 ≤ 2 ^ w)
wide-positive w k h f =
    let m : 2 ^ 128 ≤ 2 ^ w = pow_mono h in
    let l : k < 2 ^ 127 = omega (arith, f) in
    (mod-eq_of_lt (omega (arith, l, m)), l, m)

wide-negative : (w k : ℕ) → 128 ≤ w → FitsSigned w128 (negsuc k) → (bits_of w (negsuc k) + k + 1 ≡ 2 ^ w) × (k < 2 ^ 127) × (2 ^ 128 ≤ 2 ^ w)
wide-negative w k h f =
    let m : 2 ^ 128 ≤ 2 ^ w = pow_mono h in
    let l : k < 2 ^ 127 = omega (arith, f) in
    let e : k % 2 ^ w ≡ k = mod-eq_of_lt (omega (arith, l, m)) in
    (omega (arith, l, m, e), l, m)

pub wide-same : (w : ℕ) (x y : ℤ) → 128 ≤ w → FitsSigned w128 x → FitsSigned w128 y → bits_of w x ≡ bits_of w y → x ≡ y
wide-same w (pos j) (pos k) h f g e = ap pos (omega (arith, e, wide-positive w j h f, wide-positive w k h g))
wide-same w (pos j) (negsuc k) h f g e = absurd (omega (arith, e, wide-positive w j h f, wide-negative w k h g))
wide-same w (negsuc j) (pos k) h f g e = absurd (omega (arith, e, wide-negative w j h f, wide-positive w k h g))
wide-same w (negsuc j) (negsuc k) h f g e = ap negsuc (omega (arith, e, wide-negative w j h f, wide-negative w k h g))

pub wide-none : (w : ℕ) → bits_of w (pos 0) ≡ 0
wide-none w = mod-eq_of_lt (pow_pos w)

pub wide-all : (w : ℕ) → bits_of w (negsuc 0) + 1 ≡ 2 ^ w
wide-all w =
    let p : 0 < 2 ^ w = pow_pos w in
    let e : 0 % 2 ^ w ≡ 0 = mod-eq_of_lt p in
    omega (arith, p, e)

pub wide-zero : (w : ℕ) (x : ℤ) → 128 ≤ w → FitsSigned w128 x → bits_of w x ≡ 0 → x ≡ pos 0
wide-zero w (pos k) h f e = ap pos (omega (arith, e, wide-positive w k h f))
wide-zero w (negsuc k) h f e = absurd (omega (arith, e, wide-negative w k h f))

pub wide-whole : (w : ℕ) (x : ℤ) → 128 ≤ w → FitsSigned w128 x → bits_of w x + 1 ≡ 2 ^ w → x ≡ negsuc 0
wide-whole w (pos k) h f e = absurd (omega (arith, e, wide-positive w k h f))
wide-whole w (negsuc k) h f e = ap negsuc (omega (arith, e, wide-negative w k h f))

-- ends that differ, and equal ends
pub range-apart : (w : ℕ) (x y : ℤ) → 128 ≤ w → FitsSigned w128 x → FitsSigned w128 y → x ≢ y → IsRange w (bits_of w x) (bits_of w y)
range-apart w x y h f g ne e = absurd (ne (wide-same w x y h f g e))

pub range-none : (w : ℕ) (x : ℤ) (b : ℕ) → x ≡ pos 0 → IsRange w (bits_of w x) b
range-none w x b e _ = inl (ap (bits_of w) e ∙ wide-none w)

pub range-all : (w : ℕ) (x : ℤ) (b : ℕ) → x ≡ negsuc 0 → IsRange w (bits_of w x) b
range-all w x b e _ = inr (ap (λ (z : ℤ). bits_of w z + 1) e ∙ wide-all w)

pub range-whole : (w : ℕ) (x y : ℤ) → 128 ≤ w → FitsSigned w128 x → x ≡ y → x ≢ pos 0 → IsRange w (bits_of w x) (bits_of w y) → x ≡ negsuc 0
range-whole w x y h f e n r = elim (r (ap (bits_of w) e)) [ inl z ↦ absurd (n (wide-zero w x h f z)) | inr z ↦ wide-whole w x h f z ]
