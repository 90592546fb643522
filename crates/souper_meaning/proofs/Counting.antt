-- Lemmas on numbers by their digits.
use Rattle.std.proofs.Common.{◌≡◌, ℕ, zero, suc, ◌+◌, ◌*◌, ◌/◌, ◌%◌, ◌<◌, ◌≤◌, min, refl, sym, ap, subst, ◌∙◌, arith, inl, inr}
use Rattle.std.proofs.lemmas.Nat.{div-mul-add, div-add-mod'}
use Rattle.std.proofs.lemmas.Bool.{cases_lt}
use Rattle.std.proofs.lemmas.Bool.Decides.{eqb_tells}
use Rattle.std.proofs.Math.Nat.{div-one, div-eq_of_lt, div-div-eq-div-mul, add-mul-div_right, add-mul-mod_self_right, mod-eq_of_lt, mul-le-mul_left}
use Rattle.souper_meaning.specs.Digits.{product_of, number_of, digit_of, AreDigits}

pub number_zero : (r d : ℕ → ℕ) (n : ℕ) → ((p : ℕ) → p < n → d p ≡ 0) → number_of r d n ≡ 0
number_zero r d zero h = refl
number_zero r d (suc n) h =
    let a : number_of r d n ≡ 0 = number_zero r d n (λ p l. h p (omega arith)) in
    let b : d n * product_of r n ≡ 0 * product_of r n = ap (λ (z : ℕ). z * product_of r n) (h n (omega arith)) in
    omega arith

-- two numbers that have the same digits from place p on
pub number_more : (r d e : ℕ → ℕ) (p n : ℕ) → p ≤ n → ((q : ℕ) → p ≤ q → q < n → e q ≡ d q) → number_of r e p ≡ number_of r d p + 1 → number_of r e n ≡ number_of r d n + 1
number_more r d e p zero l same h =
    let z : p ≡ 0 = omega arith in
    subst (λ (z : ℕ). number_of r e z ≡ number_of r d z + 1) z h
number_more r d e p (suc n) l same h = elim (eqb_tells p (suc n)) [
  | inl t ↦ subst (λ (z : ℕ). number_of r e z ≡ number_of r d z + 1) t.1 h
  | inr t ↦
      let k : p ≤ n = omega (arith, t.1) in
      let a : number_of r e n ≡ number_of r d n + 1 = number_more r d e p n k (λ q f g. same q f (omega arith)) h in
      let b : e n * product_of r n ≡ d n * product_of r n = ap (λ (z : ℕ). z * product_of r n) (same n k (omega arith)) in
      omega arith
]

pub number_below : (r d : ℕ → ℕ) (n : ℕ) → AreDigits r d n → number_of r d n < product_of r n
number_below r d zero h = omega arith
number_below r d (suc n) h =
    let a : number_of r d n < product_of r n = number_below r d n (λ p l. h p (omega arith)) in
    let b : product_of r n * (d n + 1) ≤ product_of r n * r n = mul-le-mul_left (product_of r n) (omega (arith, h n (omega arith))) in
    omega arith

product_split : (r : ℕ → ℕ) (p n : ℕ) → p < n → (q : ℕ) × (product_of r n ≡ q * r p * product_of r p)
product_split r p zero l = absurd (omega arith)
product_split r p (suc n) l = elim (eqb_tells p n) [
  | inl t ↦ (1, subst (λ (z : ℕ). product_of r z * r z ≡ 1 * r p * product_of r p) t.1 (omega arith))
  | inr t ↦
      let s = product_split r p n (omega (arith, t.1)) in
      (s.0 * r n, ap (λ (z : ℕ). z * r n) s.1 ∙ omega arith)
]

-- digits below those of a multiple
digit_kept : (x y q r c : ℕ) → 0 < c → (x + y * (q * r * c)) / c % r ≡ x / c % r
digit_kept x y q r c l =
    let e : x + y * (q * r * c) ≡ x + (y * q * r) * c = omega arith in
    ap (λ (z : ℕ). z / c % r) e ∙ ap (λ (z : ℕ). z % r) (add-mul-div_right x (y * q * r) l) ∙ add-mul-mod_self_right (x / c) (y * q) r

pub digit_of_number : (r d : ℕ → ℕ) (n p : ℕ) → p < n → AreDigits r d n → digit_of r (number_of r d n) p ≡ d p
digit_of_number r d zero p l h = absurd (omega arith)
digit_of_number r d (suc n) p l h = elim (eqb_tells p n) [
  | inl t ↦
      let b : number_of r d n < product_of r n = number_below r d n (λ q k. h q (omega arith)) in
      let e : number_of r d n + d n * product_of r n ≡ d n * product_of r n + number_of r d n = omega arith in
      let f : digit_of r (number_of r d n + d n * product_of r n) n ≡ d n = ap (λ (z : ℕ). z / product_of r n % r n) e ∙ ap (λ (z : ℕ). z % r n) (div-mul-add (d n) (product_of r n) (number_of r d n) b) ∙ mod-eq_of_lt (h n (omega arith)) in
      subst (λ (z : ℕ). digit_of r (number_of r d n + d n * product_of r n) z ≡ d z) (sym t.1) f
  | inr t ↦
      let k : p < n = omega (arith, t.1) in
      let s = product_split r p n k in
      let b : number_of r d p < product_of r p = number_below r d p (λ q f. h q (omega arith)) in
      ap (λ (z : ℕ). (number_of r d n + d n * z) / product_of r p % r p) s.1 ∙ digit_kept (number_of r d n) (d n) s.0 (r p) (product_of r p) (omega arith) ∙ digit_of_number r d n p k (λ q f. h q (omega arith))
]

-- a step of an odometer: all places below p are at their last digits, and go to their first

pub step_on : (r d e : ℕ → ℕ) (p n : ℕ) → p < n → number_of r d p + 1 ≡ product_of r p → ((q : ℕ) → q < p → e q ≡ 0) → e p ≡ d p + 1 → ((q : ℕ) → p < q → e q ≡ d q) → number_of r e n ≡ number_of r d n + 1
step_on r d e p n l full zeros here same =
    let a : number_of r e p ≡ 0 = number_zero r e p zeros in
    let b : e p * product_of r p ≡ (d p + 1) * product_of r p = ap (λ (z : ℕ). z * product_of r p) here in
    number_more r d e (suc p) n (omega arith) (λ q f g. same q (omega arith)) (omega arith)

pub step_past : (r d : ℕ → ℕ) (p : ℕ) → number_of r d p + 1 ≡ product_of r p → r p ≡ d p + 1 → number_of r d (suc p) + 1 ≡ product_of r (suc p)
step_past r d p full last =
    let b : product_of r p * r p ≡ product_of r p * (d p + 1) = ap (λ (z : ℕ). product_of r p * z) last in
    omega arith

-- products that are not 0

pub count_positive : (r : ℕ → ℕ) (n p : ℕ) → 0 < product_of r n → p < n → 0 < r p
count_positive r n p h l = elim (eqb_tells (r p) 0) [
  | inl t ↦
      let s = product_split r p n l in
      let z : s.0 * r p * product_of r p ≡ s.0 * 0 * product_of r p = ap (λ (k : ℕ). s.0 * k * product_of r p) t.1 in
      absurd (omega (arith, s.1))
  | inr t ↦ omega (arith, t.1)
]

pub product_positive : (r : ℕ → ℕ) (n p : ℕ) → 0 < product_of r n → p ≤ n → 0 < product_of r p
product_positive r n p h l = elim (eqb_tells p n) [
  | inl t ↦ subst (λ (z : ℕ). 0 < product_of r z) (sym t.1) h
  | inr t ↦ elim (eqb_tells (product_of r p) 0) [
    | inl k ↦
        let s = product_split r p n (omega (arith, t.1)) in
        let z : s.0 * r p * product_of r p ≡ s.0 * r p * 0 = ap (λ (k : ℕ). s.0 * r p * k) k.1 in
        absurd (omega (arith, s.1))
    | inr k ↦ omega (arith, k.1)
  ]
]

pub count_within : (r : ℕ → ℕ) (n p : ℕ) → 0 < product_of r n → p < n → r p ≤ product_of r n
count_within r zero p h l = absurd (omega arith)
count_within r (suc n) p h l =
    let k : 0 < r n = count_positive r (suc n) n h (omega arith) in
    let f : 0 < product_of r n = product_positive r (suc n) n h (omega arith) in
    elim (eqb_tells p n) [
      | inl t ↦
          let g : r n * 1 ≤ r n * product_of r n = mul-le-mul_left (r n) (omega arith) in
          subst (λ (z : ℕ). r z ≤ product_of r n * r n) (sym t.1) (omega arith)
      | inr t ↦
          let i : r p ≤ product_of r n = count_within r n p f (omega (arith, t.1)) in
          let g : product_of r n * 1 ≤ product_of r n * r n = mul-le-mul_left (product_of r n) (omega arith) in
          omega arith
    ]

-- counts of which those above the top are taken as the top

pub product_same : (r s : ℕ → ℕ) (n : ℕ) → ((p : ℕ) → p < n → s p ≡ r p) → product_of s n ≡ product_of r n
product_same r s zero h = refl
product_same r s (suc n) h = ap (λ (z : ℕ). z * s n) (product_same r s n (λ p l. h p (omega arith))) ∙ ap (λ (z : ℕ). product_of r n * z) (h n (omega arith))

-- products of numbers of which one is above the top, or of numbers that are both below it
pub capped_product : (a b x y m : ℕ) → min a m ≡ min b m → x ≡ min y m → min (a * x) m ≡ min (b * y) m
capped_product a b x y m e f = elim (cases_lt m y) [
  | inl over ↦ elim (eqb_tells a 0) [
    | inl t ↦
        let p : a * x ≡ 0 * x = ap (λ (z : ℕ). z * x) t.1 in
        elim (eqb_tells b 0) [
          | inl u ↦
              let q : b * y ≡ 0 * y = ap (λ (z : ℕ). z * y) u.1 in
              omega arith
          | inr u ↦ omega (arith, t.1, u.1)
        ]
    | inr t ↦ elim (eqb_tells b 0) [
      | inl u ↦ omega (arith, t.1, u.1)
      | inr u ↦
          let p : x * 1 ≤ x * a = mul-le-mul_left x (omega (arith, t.1)) in
          let q : y * 1 ≤ y * b = mul-le-mul_left y (omega (arith, u.1)) in
          omega arith
    ]
  ]
  | inr within ↦
      let g : x ≡ y = omega arith in
      elim (cases_lt a m) [
        | inl under ↦
            let h : a ≡ b = omega arith in
            ap (λ (z : ℕ). min (z * x) m) h ∙ ap (λ (z : ℕ). min (b * z) m) g
        | inr above ↦ elim (eqb_tells y 0) [
          | inl t ↦
              let p : a * x ≡ a * 0 = ap (λ (z : ℕ). a * z) (g ∙ t.1) in
              let q : b * y ≡ b * 0 = ap (λ (z : ℕ). b * z) t.1 in
              omega arith
          | inr t ↦
              let p : a * 1 ≤ a * x = mul-le-mul_left a (omega (arith, t.1)) in
              let q : b * 1 ≤ b * y = mul-le-mul_left b (omega (arith, t.1)) in
              omega arith
        ]
      ]
]

pub product_capped : (r s : ℕ → ℕ) (m n : ℕ) → ((p : ℕ) → p < n → s p ≡ min (r p) m) → min (product_of s n) m ≡ min (product_of r n) m
product_capped r s m zero h = refl
product_capped r s m (suc n) h = capped_product (product_of s n) (product_of r n) (s n) (r n) m (product_capped r s m n (λ p l. h p (omega arith))) (h n (omega arith))

pub number_same : (r s d : ℕ → ℕ) (n : ℕ) → ((p : ℕ) → p < n → s p ≡ r p) → number_of s d n ≡ number_of r d n
number_same r s d zero h = refl
number_same r s d (suc n) h = ap (λ (z : ℕ). z + d n * product_of s n) (number_same r s d n (λ p l. h p (omega arith))) ∙ ap (λ (z : ℕ). number_of r d n + d n * z) (product_same r s n (λ p l. h p (omega arith)))

-- the digits of a number make it up
digits_and_rest : (r : ℕ → ℕ) (k n : ℕ) → number_of r (digit_of r k) n + k / product_of r n * product_of r n ≡ k
digits_and_rest r k zero = let e : k / 1 ≡ k = div-one k in omega arith
digits_and_rest r k (suc n) =
    let before : number_of r (digit_of r k) n + k / product_of r n * product_of r n ≡ k = digits_and_rest r k n in
    let whole : k / product_of r n / r n * r n + k / product_of r n % r n ≡ k / product_of r n = div-add-mod' (k / product_of r n) (r n) in
    let scaled : product_of r n * (k / product_of r n / r n * r n + k / product_of r n % r n) ≡ product_of r n * (k / product_of r n) = ap (λ (z : ℕ). product_of r n * z) whole in
    let above : k / product_of r n / r n * (product_of r n * r n) ≡ k / (product_of r n * r n) * (product_of r n * r n) =
    ap (λ (z : ℕ). z * (product_of r n * r n)) (div-div-eq-div-mul k (product_of r n) (r n))
    in
    omega arith

pub number_of_digits : (r : ℕ → ℕ) (k n : ℕ) → k < product_of r n → number_of r (digit_of r k) n ≡ k
number_of_digits r k n l =
    let e : k / product_of r n * product_of r n ≡ 0 * product_of r n = ap (λ (z : ℕ). z * product_of r n) (div-eq_of_lt l) in
    omega (arith, digits_and_rest r k n)

pub number_by_digits_same : (r d e : ℕ → ℕ) (n : ℕ) → ((p : ℕ) → p < n → d p ≡ e p) → number_of r d n ≡ number_of r e n
number_by_digits_same r d e zero h = refl
number_by_digits_same r d e (suc n) h = ap (λ (z : ℕ). z + d n * product_of r n) (number_by_digits_same r d e n (λ p l. h p (omega arith))) ∙ ap (λ (z : ℕ). number_of r e n + z * product_of r n) (h n (omega arith))
