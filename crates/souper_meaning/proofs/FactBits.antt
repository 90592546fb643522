-- Facts of numbers, as the code tests them.
use Rattle.std.proofs.Common.{◌≡◌, ◌⊎◌, ◌↔◌, ℕ, suc, ◌+◌, ◌-◌, ◌*◌, ◌/◌, ◌%◌, ◌^◌, ◌<◌, ◌≤◌, inl, inr, Bool, true, List, ◌∷◌, length, drop, get_or, Option, sym, ap, subst, ◌∙◌, arith, eq-eqb, nat_eq}
use Rattle.std.specs.Prelude.{IsTrue, nat_le}
use Rattle.std.proofs.Math.Seq.{drop-cons}
use Rattle.std.proofs.lemmas.Bool.Decides.{eqb_tells, leb_tells}
use Rattle.std.proofs.lemmas.List.{length-drop, drop_all}
use Rattle.std.proofs.Math.Nat.{div-eq_of_lt, div-lt_iff_lt-mul, mod-eq_of_lt, add-mod_right}
use Rattle.std.proofs.Math.Pow.{pow_mono, pow_pos}
use Rattle.souper_meaning.specs.Facts.{IsKnownBit, HasKnownBits, HasSignBits, IsInRange}

-- the bits from position i on
known_from : (bs : List (Option Bool)) (n i j : ℕ) (b : Option Bool) → i < length bs → length bs ≡ i + 1 + j → b ≡ get_or bs i b
    → HasKnownBits (drop i bs) n ↔ (IsKnownBit b (n / 2 ^ j % 2) × HasKnownBits (drop (suc i) bs) n)
known_from bs n i j b l q e = (to, back)
  where
    whole : drop i bs ≡ b ∷ drop (suc i) bs
    whole = drop-cons bs i b l ∙ ap (λ (y : Option Bool). y ∷ drop (suc i) bs) (sym e)

    size : length (drop (suc i) bs) ≡ j
    size = omega (arith, length-drop (suc i) bs, q)

    to : HasKnownBits (drop i bs) n → IsKnownBit b (n / 2 ^ j % 2) × HasKnownBits (drop (suc i) bs) n
    to h =
        let k : HasKnownBits (b ∷ drop (suc i) bs) n = subst (λ (z : List (Option Bool)). HasKnownBits z n) whole h in
        (subst (λ (z : ℕ). IsKnownBit b (n / 2 ^ z % 2)) size k.0, k.1)

    back : IsKnownBit b (n / 2 ^ j % 2) × HasKnownBits (drop (suc i) bs) n → HasKnownBits (drop i bs) n
    back h =
        let k : HasKnownBits (b ∷ drop (suc i) bs) n = (subst (λ (z : ℕ). IsKnownBit b (n / 2 ^ z % 2)) (sym size) h.0, h.1) in
        subst (λ (z : List (Option Bool)). HasKnownBits z n) (sym whole) k

-- one more bit is as known
pub known_more : (bs : List (Option Bool)) (n i j : ℕ) (b : Option Bool) → i < length bs → length bs ≡ i + 1 + j → b ≡ get_or bs i b → IsKnownBit b (n / 2 ^ j % 2)
    → HasKnownBits bs n ↔ HasKnownBits (drop i bs) n → HasKnownBits bs n ↔ HasKnownBits (drop (i + 1) bs) n
known_more bs n i j b l q e k h =
    let f = known_from bs n i j b l q e in
    let s : i + 1 ≡ suc i = omega arith in
    subst (λ (z : ℕ). HasKnownBits bs n ↔ HasKnownBits (drop z bs) n) (sym s) ((λ a. (f.0 (h.0 a)).1), (λ a. h.1 (f.1 (k, a))))

-- a bit that is not
pub known_not : (bs : List (Option Bool)) (n i j : ℕ) (b : Option Bool) → i < length bs → length bs ≡ i + 1 + j → b ≡ get_or bs i b → ¬ IsKnownBit b (n / 2 ^ j % 2)
    → HasKnownBits bs n ↔ HasKnownBits (drop i bs) n → ¬ HasKnownBits bs n
known_not bs n i j b l q e k h = λ a. k ((known_from bs n i j b l q e).0 (h.0 a)).0

pub known_all : (bs : List (Option Bool)) (n i : ℕ) → length bs ≤ i → HasKnownBits bs n ↔ HasKnownBits (drop i bs) n → HasKnownBits bs n
known_all bs n i l h = h.1 (subst (λ (z : List (Option Bool)). HasKnownBits z n) (sym (drop_all i bs l)) tt)

-- no top bit is wanted
pub no_sign_bits : (w n : ℕ) → n < 2 ^ w → HasSignBits w 0 n
no_sign_bits w n h =
    let s : w - 0 ≡ w = omega arith in
    inl (subst (λ (z : ℕ). n / 2 ^ z ≡ 0) (sym s) (div-eq_of_lt h))

equal_of_true : (a b : ℕ) → nat_eq a b ≡ true → a ≡ b
equal_of_true a b h = elim (eqb_tells a b) [ inl t ↦ t.1 | inr t ↦ absurd (cc (h, t.0)) ]

-- the bits from position k on are 0 exactly if the number is below
pub none_above : (n k : ℕ) → n / 2 ^ k ≡ 0 → n < 2 ^ k
none_above n k e =
    let l : n / 2 ^ k < 1 = omega (arith, e) in
    let m : n < 1 * 2 ^ k = (div-lt_iff_lt-mul {k = 2 ^ k} {x = n} {y = 1} (pow_pos k)).0 l in
    omega (arith, m)

pub wraps_up : (from to mask : ℕ) → from ≤ to → to ≤ mask → to - from ≡ (to + (mask + 1 - from)) % (mask + 1)
wraps_up from to mask h k =
    let s : to + (mask + 1 - from) ≡ to - from + (mask + 1) = omega arith in
    let l : to - from < mask + 1 = omega arith in
    sym (ap (λ (z : ℕ). z % (mask + 1)) s ∙ add-mod_right (to - from) (mask + 1) ∙ mod-eq_of_lt l)

pub wraps_around : (from to mask : ℕ) → to < from → from ≤ mask → mask - (from - to) + 1 ≡ (to + (mask + 1 - from)) % (mask + 1)
wraps_around from to mask h k =
    let s : to + (mask + 1 - from) ≡ mask - (from - to) + 1 = omega arith in
    let l : mask - (from - to) + 1 < mask + 1 = omega arith in
    sym (ap (λ (z : ℕ). z % (mask + 1)) s ∙ mod-eq_of_lt l)

-- no bit is left
pub below_shifted : (n k : ℕ) → IsTrue (nat_eq (n / 2 ^ k) 0) ↔ (n < 2 ^ k)
below_shifted n k = ((λ t. none_above n k (equal_of_true (n / 2 ^ k) 0 t)), (λ h. eq-eqb (n / 2 ^ k) 0 (div-eq_of_lt h)))

-- a range by its ends, as the code computes distances
pub range_from : (w low high n mask first end place size : ℕ) (b : Bool) → mask ≡ 2 ^ w - 1 → first ≡ low → end ≡ high → place ≡ (n + (mask + 1 - first)) % (mask + 1) → size ≡ (end + (mask + 1 - first)) % (mask + 1)
    → IsTrue b ↔ ((first ≡ end) × (first ≡ mask)) ⊎ (place < size) → IsTrue b ↔ IsInRange w low high n
range_from w low high n mask first end place size b m f e p s h = ((λ t. to (h.0 t)), (λ r. h.1 (back r)))
  where
    whole : mask + 1 ≡ 2 ^ w
    whole = omega (arith, m, pow_pos w)

    place_is : place ≡ (n + (2 ^ w - low)) % 2 ^ w
    place_is = p ∙ ap (λ (z : ℕ). (n + (z - first)) % z) whole ∙ ap (λ (z : ℕ). (n + (2 ^ w - z)) % 2 ^ w) f

    size_is : size ≡ (high + (2 ^ w - low)) % 2 ^ w
    size_is = s ∙ ap (λ (z : ℕ). (end + (z - first)) % z) whole ∙ ap (λ (z : ℕ). (end + (2 ^ w - z)) % 2 ^ w) f ∙ ap (λ (z : ℕ). (z + (2 ^ w - low)) % 2 ^ w) e

    to : ((first ≡ end) × (first ≡ mask)) ⊎ (place < size) → IsInRange w low high n
    to (inl r) = inl (sym f ∙ r.0 ∙ e, omega (arith, r.1, f, whole))
    to (inr r) = inr (subst (λ (z : ℕ). z < (high + (2 ^ w - low)) % 2 ^ w) place_is (subst (λ (z : ℕ). place < z) size_is r))

    back : IsInRange w low high n → ((first ≡ end) × (first ≡ mask)) ⊎ (place < size)
    back (inl r) = inl (f ∙ r.0 ∙ sym e, omega (arith, r.1, f, whole))
    back (inr r) = inr (subst (λ (z : ℕ). z < size) (sym place_is) (subst (λ (z : ℕ). (n + (2 ^ w - low)) % 2 ^ w < z) (sym size_is) r))

true_le : (a b : ℕ) → a ≤ b → nat_le a b ≡ true
true_le a b h = elim (leb_tells a b) [ inl t ↦ t.0 | inr t ↦ absurd (omega (arith, t.1, h)) ]

-- a power that is as large as all numbers
pub below_large : (n b p : ℕ) → n < 2 ^ b → b ≤ p → IsTrue (nat_le b p) ↔ (n < 2 ^ p)
below_large n b p h l = ((λ t. let m : 2 ^ b ≤ 2 ^ p = pow_mono l in omega (arith, m, h)), (λ t. true_le b p l))
