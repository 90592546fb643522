-- Types of widths, and signed numbers.
use Rattle.std.proofs.Common.{◌≡◌, ℕ, zero, suc, ◌+◌, ◌-◌, ◌*◌, ◌<◌, ◌≤◌, ◌%◌, ◌^◌, ◌⊎◌, inl, inr, Bool, true, false, Option, Some, None, refl, sym, ap, subst, ◌∙◌, arith}
use Rattle.std.specs.Prelude.{◌&&◌, if◌then◌else◌, nat_le, nat_lt, ℤ, pos, negsuc, FitsSigned, [], ◌∷◌}
use Rattle.std.specs.Int.{w128}
use Rattle.std.specs.List.{AllByRecursion}
use Rattle.std.proofs.lemmas.Bool.Decides.{leb_tells}
use Rattle.std.proofs.Math.Nat.{pow-suc, mod-eq_of_lt}
use Rattle.std.proofs.Math.Pow.{pow_mono}
use Rattle.souper_graph.specs.declared.ast.operands.«Type».{«Type» as Ty}
use Rattle.souper_graph.specs.WellFormed.{FitsType, FitsOptionalType}
use Rattle.souper_widths.specs.Maps.{WidthMap}
use Rattle.souper_widths.specs.Equations.{Width, width_by, Holds, type_equations, constant_equations}
use Rattle.souper_widths.specs.Limits.{FitsWidth, bits_of}
use Rattle.souper_typed.specs.declared.form.Form.{Form}
use Rattle.souper_typed.specs.declared.form.Form.TheVariants.{Widths, Complete}
use Rattle.souper_typed.specs.Numbers.{is_width, type_of, has_top_bit, signed_number, written_number, index_type}

le-tells : (a b : ℕ) → ((nat_le a b ≡ true) × (a ≤ b)) ⊎ ((nat_le a b ≡ false) × (b < a))
le-tells a b = leb_tells a b

lt-tells : (a b : ℕ) → ((nat_lt a b ≡ true) × (a < b)) ⊎ ((nat_lt a b ≡ false) × (b ≤ a))
lt-tells a b = elim (leb_tells (suc a) b) [ inl t ↦ inl (t.0, omega (arith, t.1)) | inr t ↦ inr (t.0, omega (arith, t.1)) ]

both-true : (x y : Bool) → x ≡ true → y ≡ true → (x && y) ≡ true
both-true x y p q = rw (p, q) refl

first-false : (x y : Bool) → x ≡ false → (x && y) ≡ false
first-false x y p = rw p refl

second-false : (x y : Bool) → x ≡ true → y ≡ false → (x && y) ≡ false
second-false x y p q = rw (p, q) refl

width-tells : (n : ℕ) → ((is_width n ≡ true) × (0 < n) × (n < 65536)) ⊎ ((is_width n ≡ false) × (0 < n → 65536 ≤ n))
width-tells n = elim (lt-tells 0 n) [
  | inl s ↦ elim (lt-tells n 65536) [
    | inl t ↦ inl (both-true (nat_lt 0 n) (nat_lt n 65536) s.0 t.0, s.1, t.1)
    | inr t ↦ inr (second-false (nat_lt 0 n) (nat_lt n 65536) s.0 t.0, λ _. t.1)
  ]
  | inr s ↦ inr (first-false (nat_lt 0 n) (nat_lt n 65536) s.0, λ h. absurd (omega (arith, h, s.1)))
]

abbrev type_if : ℕ → Bool → Option Ty
type_if n b = if b then Some (record { width = n }) else None

abbrev type_with : ℕ → Option Ty
type_with n = Some (record { width = n })

abbrev signed_if : ℕ → ℕ → Bool → ℤ
signed_if n k b = if b then negsuc (2 ^ n - 1 - k) else pos k

-- a property of the type of n bits
on-type : (P : Option Ty → Type 0) (n : ℕ) → (0 < n → n < 65536 → P (type_with n)) → P None → P (type_of n)
on-type P n h q = elim (width-tells n) [
  | inl t ↦ subst (λ (b : Bool). P (type_if n b)) (sym t.0) (h t.1 t.2)
  | inr t ↦ subst (λ (b : Bool). P (type_if n b)) (sym t.0) q
]

pub type-fits : (n : ℕ) → FitsOptionalType (type_of n)
type-fits n = on-type FitsOptionalType n (λ l h. (l, omega (arith, h))) tt

-- a type that is written is the type of its width
pub type-some : (t : Ty) (n : ℕ) → FitsType t → t.width ≡ n → type_of n ≡ Some t
type-some t n f e = elim (width-tells n) [
  | inl s ↦ ap (type_if n) s.0 ∙ ap type_with (sym e)
  | inr s ↦ absurd (omega (arith, s.1 (omega (arith, e, f.0)), e, f.1))
]

pub type-holds : (m : WidthMap) (x : Width) (n : ℕ) → width_by m x ≡ n → AllByRecursion (Holds m) (type_equations (type_of n) x)
type-holds m x n e = on-type (λ (o : Option Ty). AllByRecursion (Holds m) (type_equations o x)) n (λ l h. (e, tt)) tt

pub constant-holds : (m : WidthMap) (x : Width) (n : ℕ) → width_by m x ≡ n → AllByRecursion (Holds m) (constant_equations (type_of n) x)
constant-holds m x n e = on-type (λ (o : Option Ty). AllByRecursion (Holds m) (constant_equations o x)) n (λ l h. (sym e, tt)) tt

-- what a written type and the type of its width say is the same
pub type-held : (m o : WidthMap) (t : Option Ty) (x : Width) (n : ℕ) → width_by m x ≡ n → FitsOptionalType t → AllByRecursion (Holds m) (type_equations t x)
    → AllByRecursion (Holds o) (type_equations (type_of n) x) → AllByRecursion (Holds o) (type_equations t x)
type-held m o None x n e f h k = tt
type-held m o (Some t) x n e f h k = subst (λ (z : Option Ty). AllByRecursion (Holds o) (type_equations z x)) (type-some t n f (sym h.0 ∙ e)) k

pub constant-held : (m o : WidthMap) (t : Option Ty) (x : Width) → FitsOptionalType t → AllByRecursion (Holds m) (constant_equations t x)
    → AllByRecursion (Holds o) (constant_equations (type_of (width_by m x)) x) → AllByRecursion (Holds o) (constant_equations t x)
constant-held m o None x f h k = tt
constant-held m o (Some t) x f h k = subst (λ (z : Option Ty). AllByRecursion (Holds o) (constant_equations z x)) (type-some t (width_by m x) f h.0) k

-- twice a half is the whole, at least
pub half : (n : ℕ) → 2 ^ n ≤ 2 * 2 ^ (n - 1)
half zero = omega arith
half (suc j) =
    let e : suc j - 1 ≡ j = omega arith in
    subst (λ (k : ℕ). 2 ^ suc j ≤ 2 * 2 ^ k) (sym e) (let p : 2 ^ suc j ≡ 2 ^ j * 2 = pow-suc 2 j in omega (arith, p))

pub half-whole : (n : ℕ) → 0 < n → 2 ^ n ≡ 2 * 2 ^ (n - 1)
half-whole zero h = absurd (omega (arith, h))
half-whole (suc j) h =
    let e : suc j - 1 ≡ j = omega arith in
    subst (λ (k : ℕ). 2 ^ suc j ≡ 2 * 2 ^ k) (sym e) (let p : 2 ^ suc j ≡ 2 ^ j * 2 = pow-suc 2 j in omega (arith, p))

pub top-tells : (n k : ℕ) → ((has_top_bit n k ≡ true) × (2 ^ (n - 1) ≤ k) × (k < 2 ^ n)) ⊎ ((has_top_bit n k ≡ false) × (k < 2 ^ n → k < 2 ^ (n - 1)))
top-tells n k = elim (le-tells (2 ^ (n - 1)) k) [
  | inl s ↦ elim (lt-tells k (2 ^ n)) [
    | inl t ↦ inl (both-true (nat_le (2 ^ (n - 1)) k) (nat_lt k (2 ^ n)) s.0 t.0, s.1, t.1)
    | inr t ↦ inr (second-false (nat_le (2 ^ (n - 1)) k) (nat_lt k (2 ^ n)) s.0 t.0, λ h. absurd (omega (arith, h, t.1)))
  ]
  | inr s ↦ inr (first-false (nat_le (2 ^ (n - 1)) k) (nat_lt k (2 ^ n)) s.0, λ _. s.1)
]

-- a property of the signed number of a number that is not negative
pub on-signed : (P : ℤ → Type 0) (n k : ℕ) → (2 ^ (n - 1) ≤ k → k < 2 ^ n → P (negsuc (2 ^ n - 1 - k))) → (has_top_bit n k ≡ false → (k < 2 ^ n → k < 2 ^ (n - 1)) → P (pos k)) → P (signed_number n (pos k))
on-signed P n k h q = elim (top-tells n k) [
  | inl t ↦ subst (λ (b : Bool). P (signed_if n k b)) (sym t.0) (h t.1 t.2)
  | inr t ↦ subst (λ (b : Bool). P (signed_if n k b)) (sym t.0) (q t.0 t.1)
]

pub signed-fits : (n : ℕ) (z : ℤ) → FitsWidth n z → FitsWidth n (signed_number n z)
signed-fits n (pos k) h = on-signed (FitsWidth n) n k (λ l u. let d = half n in omega (arith, d, l, u)) (λ _ _. h)
signed-fits n (negsuc k) h = h

pub signed-bits : (n : ℕ) (z : ℤ) → bits_of n (signed_number n z) ≡ bits_of n z
signed-bits n (pos k) = on-signed (λ (z : ℤ). bits_of n z ≡ bits_of n (pos k)) n k (λ l u. turned l u) (λ _ _. refl)
  where
    turned : 2 ^ (n - 1) ≤ k → k < 2 ^ n → 2 ^ n - 1 - (2 ^ n - 1 - k) % 2 ^ n ≡ k % 2 ^ n
    turned l u =
        let e : (2 ^ n - 1 - k) % 2 ^ n ≡ 2 ^ n - 1 - k = mod-eq_of_lt (omega (arith, u)) in
        let f : k % 2 ^ n ≡ k = mod-eq_of_lt u in
        ap (λ (z : ℕ). 2 ^ n - 1 - z) e ∙ omega (arith, u, f)
signed-bits n (negsuc k) = refl

pub signed-signed : (n : ℕ) (z : ℤ) → FitsSigned w128 z → FitsSigned w128 (signed_number n z)
signed-signed n (pos k) h = on-signed (FitsSigned w128) n k (λ l u. let d = half n in omega (arith, d, l, u, h)) (λ _ _. h)
signed-signed n (negsuc k) h = h

pub signed-again : (n : ℕ) (z : ℤ) → signed_number n (signed_number n z) ≡ signed_number n z
signed-again n (pos k) = on-signed (λ (z : ℤ). signed_number n z ≡ z) n k (λ _ _. refl) (λ e _. ap (signed_if n k) e)
signed-again n (negsuc k) = refl

-- the same in each form
pub number-fits : (f : Form) (n : ℕ) (z : ℤ) → FitsWidth n z → FitsWidth n (written_number f n z)
number-fits Widths n z h = h
number-fits Complete n z h = signed-fits n z h

pub number-bits : (f : Form) (n : ℕ) (z : ℤ) → bits_of n (written_number f n z) ≡ bits_of n z
number-bits Widths n z = refl
number-bits Complete n z = signed-bits n z

pub number-signed : (f : Form) (n : ℕ) (z : ℤ) → FitsSigned w128 z → FitsSigned w128 (written_number f n z)
number-signed Widths n z h = h
number-signed Complete n z h = signed-signed n z h

pub number-again : (f : Form) (n : ℕ) (z : ℤ) → written_number f n (written_number f n z) ≡ written_number f n z
number-again Widths n z = refl
number-again Complete n z = signed-again n z

pub index-type-fits : (f : Form) (t : Option Ty) → FitsOptionalType t → FitsOptionalType (index_type f t)
index-type-fits Widths t h = h
index-type-fits Complete t h = (omega arith, omega arith)

pub index-type-again : (f : Form) (t : Option Ty) → index_type f (index_type f t) ≡ index_type f t
index-type-again Widths t = refl
index-type-again Complete t = refl

-- a signed number is below the half
pub signed-below : (n k : ℕ) (z : ℤ) → FitsWidth n z → signed_number n z ≡ pos k → k < 2 ^ (n - 1)
signed-below n k (pos j) h e = on-signed (λ (z : ℤ). z ≡ pos k → k < 2 ^ (n - 1)) n j (λ l u q. absurd (cc)) (λ _ g q. let r : j ≡ k = cc in subst (λ (i : ℕ). i < 2 ^ (n - 1)) r (g h)) e
signed-below n k (negsuc j) h e = absurd (cc)

-- the bits of a number that fits
positive-bits : (n k : ℕ) → k < 2 ^ n → bits_of n (pos k) ≡ k
positive-bits n k h = mod-eq_of_lt h

negative-bits : (n k : ℕ) → 0 < n → k < 2 ^ (n - 1) → bits_of n (negsuc k) + k + 1 ≡ 2 ^ n
negative-bits n k l h =
    let d : 2 ^ n ≡ 2 * 2 ^ (n - 1) = half-whole n l in
    let e : k % 2 ^ n ≡ k = mod-eq_of_lt (omega (arith, d, h)) in
    omega (arith, d, e, h)

-- a number with the bits of a negative one
turned-negative : (n k j : ℕ) → 0 < n → k < 2 ^ n → j < 2 ^ (n - 1) → bits_of n (pos k) ≡ bits_of n (negsuc j) → signed_number n (pos k) ≡ negsuc j
turned-negative n k j l u h e =
    let d : 2 ^ n ≡ 2 * 2 ^ (n - 1) = half-whole n l in
    let p : bits_of n (pos k) ≡ k = positive-bits n k u in
    let q : bits_of n (negsuc j) + j + 1 ≡ 2 ^ n = negative-bits n j l h in
    let s : k + j + 1 ≡ 2 ^ n = omega (arith, e, p, q) in
    on-signed (λ (z : ℤ). z ≡ negsuc j) n k (λ _ _. ap negsuc (let i : 2 ^ n - 1 - k ≡ j = omega (arith, s) in i)) (λ _ g. absurd (let b : k < 2 ^ (n - 1) = g u in omega (arith, b, s, d, h)))

-- of the numbers with the same bits one is signed
pub same-signed : (n : ℕ) (x y : ℤ) → 0 < n → FitsWidth n x → FitsWidth n y → bits_of n x ≡ bits_of n y → signed_number n x ≡ signed_number n y
same-signed n (pos j) (pos k) l h g e = ap (λ (z : ℕ). signed_number n (pos z)) (sym (positive-bits n j h) ∙ e ∙ positive-bits n k g)
same-signed n (pos j) (negsuc k) l h g e = turned-negative n j k l h g e
same-signed n (negsuc j) (pos k) l h g e = sym (turned-negative n k j l g h (sym e))
same-signed n (negsuc j) (negsuc k) l h g e =
    let p : bits_of n (negsuc j) + j + 1 ≡ 2 ^ n = negative-bits n j l h in
    let q : bits_of n (negsuc k) + k + 1 ≡ 2 ^ n = negative-bits n k l g in
    ap negsuc (omega (arith, e, p, q))

-- numbers that stay: at no width, and at one that has the bits of each number
pub none-stays : (n : ℕ) (z : ℤ) → n ≡ 0 → signed_number n z ≡ z
none-stays n (pos k) e = on-signed (λ (z : ℤ). z ≡ pos k) n k (λ l u. absurd (beside l (subst (λ (i : ℕ). k < 2 ^ i) e u))) (λ _ _. refl)
  where
    beside : 2 ^ (n - 1) ≤ k → k < 2 ^ 0 → ⊥
    beside l u = let o : 2 ^ (n - 1) ≤ k = l in let p : 2 ^ (0 - 1) ≤ k = subst (λ (i : ℕ). 2 ^ (i - 1) ≤ k) e o in omega (arith, p, u)
none-stays n (negsuc k) e = refl

pub wide-stays : (n : ℕ) (z : ℤ) → 128 ≤ n → FitsSigned w128 z → signed_number n z ≡ z
wide-stays n (pos k) l h = on-signed (λ (z : ℤ). z ≡ pos k) n k (λ o u. absurd (beside o)) (λ _ _. refl)
  where
    beside : 2 ^ (n - 1) ≤ k → ⊥
    beside o =
        let q : 127 ≤ n - 1 = omega (arith, l) in
        let m : 2 ^ 127 ≤ 2 ^ (n - 1) = pow_mono q in
        omega (arith, m, o, h)
wide-stays n (negsuc k) l h = refl
