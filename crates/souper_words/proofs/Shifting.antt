-- Lemmas on shifts.
use Rattle.std.proofs.Common.{◌≡◌, ℕ, zero, suc, ◌+◌, ◌-◌, ◌*◌, ◌/◌, ◌%◌, ◌^◌, ◌<◌, ◌≤◌, true, false, ℤ, pos, negsuc, ◌*ℤ◌, neg_ℤ, leb, ltb, sym, ◌∙◌, ap, arith, inl, inr, bit_or}
use Rattle.std.specs.Int.Signed.{mag}
use Rattle.std.proofs.lemmas.Nat.{pow_pos, pow-add, or_mod, or_shifted, shr_below, div-mul-add, mod-mul-add}
use Rattle.std.proofs.Math.Nat.{mul-le-mul_right, mul-add-div_right, mod-eq_of_lt, mul-div-mul_right, mul-one, div-one}
use Rattle.std.proofs.lemmas.Bool.Decides.{leb_tells}
use Rattle.souper_words.specs.Numbers.{is_out}
use Rattle.souper_words.proofs.Signed.{is_out-size, mod_of_128}

pub leb-true : (m n : ℕ) → m ≤ n → leb m n ≡ true
leb-true m n h = grind (arith, leb_tells)

pub leb-false : (m n : ℕ) → n < m → leb m n ≡ false
leb-false m n h = grind (arith, leb_tells)

-- to scale both sides changes no test
leb-scaled : (x a y : ℕ) → 0 < y → leb x a ≡ leb (x * y) (a * y)
leb-scaled x a y h =
    elim (leb_tells x a) [
      | inl t ↦ t.0 ∙ sym (leb-true (x * y) (a * y) (mul-le-mul_right y t.1))
      | inr t ↦ t.0 ∙ sym (leb-false (x * y) (a * y) (let l : suc a * y ≤ x * y = mul-le-mul_right y t.1 in omega arith))
    ]

-- the same where the right side is one less than the next multiple
leb-below_next : (x a y : ℕ) → 0 < y → leb x a ≡ leb (x * y) (suc a * y - 1)
leb-below_next x a y h =
    elim (leb_tells x a) [
      | inl t ↦ t.0 ∙ sym (leb-true (x * y) (suc a * y - 1) (let l : x * y ≤ a * y = mul-le-mul_right y t.1 in omega arith))
      | inr t ↦ t.0 ∙ sym (leb-false (x * y) (suc a * y - 1) (let l : suc a * y ≤ x * y = mul-le-mul_right y t.1 in omega arith))
    ]

mag-negative : (n : ℕ) → 0 < n → mag (neg_ℤ (pos n)) ≡ n - 1
mag-negative zero h = absurd (omega arith)
mag-negative (suc n) h = omega arith

power_rest : (w b : ℕ) → b ≤ w → 2 ^ w ≡ 2 ^ (w - b) * 2 ^ b
power_rest w b h = ap (λ n. 2 ^ n) (let e : w ≡ (w - b) + b = omega arith in e) ∙ pow-add 2 (w - b) b

half_rest : (w b : ℕ) → b < w → 2 ^ (w - 1) ≡ 2 ^ (w - b - 1) * 2 ^ b
half_rest w b h = ap (λ n. 2 ^ n) (let e : w - 1 ≡ (w - b - 1) + b = omega arith in e) ∙ pow-add 2 (w - b - 1) b

size_shift : (w b : ℕ) (z : ℤ) → b < w → leb (2 ^ (w - b - 1)) (mag z) ≡ leb (2 ^ (w - 1)) (mag (z *ℤ pos (2 ^ b)))
size_shift w b (pos k) h =
    leb-scaled (2 ^ (w - b - 1)) k (2 ^ b) (pow_pos b) ∙ ap (λ n. leb n (k * 2 ^ b)) (sym (half_rest w b h))
size_shift w b (negsuc k) h =
    let p : 0 < 2 ^ b = pow_pos b in
    let l : 0 < suc k * 2 ^ b = omega arith in
    leb-below_next (2 ^ (w - b - 1)) k (2 ^ b) p ∙ ap (λ n. leb n (suc k * 2 ^ b - 1)) (sym (half_rest w b h))
    ∙ ap (leb (2 ^ (w - 1))) (sym (mag-negative (suc k * 2 ^ b) l))

-- a number shifted left has more than w bits if it has more than w - b
pub is_out-shifted : (w b : ℕ) (z : ℤ) → b < w → is_out (w - b) z ≡ is_out w (z *ℤ pos (2 ^ b))
is_out-shifted w b z h = is_out-size (w - b) z ∙ size_shift w b z h ∙ sym (is_out-size w (z *ℤ pos (2 ^ b)))

pub shift_test : (w b a m : ℕ) → b < w → m ≡ 2 ^ (w - b) - 1 → ltb m a ≡ leb (2 ^ w) (a * 2 ^ b)
shift_test w b a m h e =
    let p : 0 < 2 ^ (w - b) = pow_pos (w - b) in
    let f : suc m ≡ 2 ^ (w - b) = omega arith in
    let g : b ≤ w = omega arith in
    ap (λ n. leb n a) f ∙ leb-scaled (2 ^ (w - b)) a (2 ^ b) (pow_pos b) ∙ ap (λ n. leb n (a * 2 ^ b)) (sym (power_rest w b g))

-- two numbers of w bits, one above the other, shifted right by j
whole : (w a b j : ℕ) → j ≤ w → (a * 2 ^ w + b) / 2 ^ j ≡ a * 2 ^ (w - j) + b / 2 ^ j
whole w a b j h =
    let e : a * 2 ^ w ≡ a * 2 ^ (w - j) * 2 ^ j = ap (λ n. a * n) (power_rest w j h) ∙ omega arith in
    ap (λ n. (n + b) / 2 ^ j) e ∙ mul-add-div_right (pow_pos j) (a * 2 ^ (w - j)) b

pub funnel : (w a b j : ℕ) → j ≤ w → w ≤ 128 → b < 2 ^ w → bit_or (a * 2 ^ (w - j) % 2 ^ 128) (b / 2 ^ j) % 2 ^ w ≡ (a * 2 ^ w + b) / 2 ^ j % 2 ^ w
funnel w a b j h k l =
    let e : (w - j) + j ≡ w = omega arith in
    let s : b / 2 ^ j < 2 ^ (w - j) = shr_below b (w - j) j (rw e l) in
    or_mod (a * 2 ^ (w - j) % 2 ^ 128) (b / 2 ^ j) w
    ∙ ap (λ n. bit_or n (b / 2 ^ j % 2 ^ w)) (mod_of_128 w (a * 2 ^ (w - j)) k)
    ∙ sym (or_mod (a * 2 ^ (w - j)) (b / 2 ^ j) w)
    ∙ ap (λ n. n % 2 ^ w) (or_shifted a (w - j) (b / 2 ^ j) s ∙ sym (whole w a b j h))

-- to shift left by k and right by w is to shift right by the rest
pub left_then_right : (w n k : ℕ) → k ≤ w → n * 2 ^ k / 2 ^ w ≡ n / 2 ^ (w - k)
left_then_right w n k h = ap (λ m. n * 2 ^ k / m) (power_rest w k h) ∙ mul-div-mul_right n (2 ^ (w - k)) (pow_pos k)

-- a funnel shift by 0
pub funnel_left_by_zero : (w a b k : ℕ) → a < 2 ^ w → b < 2 ^ w → k ≡ 0 → (a * 2 ^ w + b) * 2 ^ k / 2 ^ w % 2 ^ w ≡ a
funnel_left_by_zero w a b k h l e =
    ap (λ n. (a * 2 ^ w + b) * 2 ^ n / 2 ^ w % 2 ^ w) e ∙ ap (λ n. n / 2 ^ w % 2 ^ w) (mul-one (a * 2 ^ w + b))
    ∙ ap (λ n. n % 2 ^ w) (div-mul-add a (2 ^ w) b l) ∙ mod-eq_of_lt h

pub funnel_right_by_zero : (w a b k : ℕ) → b < 2 ^ w → k ≡ 0 → (a * 2 ^ w + b) / 2 ^ k % 2 ^ w ≡ b
funnel_right_by_zero w a b k l e =
    ap (λ n. (a * 2 ^ w + b) / 2 ^ n % 2 ^ w) e ∙ ap (λ n. n % 2 ^ w) (div-one (a * 2 ^ w + b)) ∙ mod-mul-add a (2 ^ w) b l
