-- Lemmas on numbers of w bits.
use Rattle.std.proofs.Common.{◌≡◌, ℕ, zero, suc, ◌+◌, ◌-◌, ◌*◌, ◌/◌, ◌%◌, ◌^◌, ◌<◌, ◌≤◌, Bool, true, false, cond, ◌||◌, ℤ, pos, negsuc, ◌-ℤ◌, neg_ℤ, leb, ltb, refl, sym, ◌∙◌, ap, arith, inl, inr}
use Rattle.std.specs.Prelude.{FitsSigned, int_lt, int_le}
use Rattle.std.specs.Int.{w128, cast_unsigned, cast_signed}
use Rattle.std.proofs.lemmas.Int.{ints, to_z-of_z}
use Rattle.std.proofs.lemmas.Nat.{pow_pos, pow-add, div_below, shr_split, mod_below, mod-mul-add}
use Rattle.std.proofs.lemmas.Nat.Bits.{ones_shr}
use Rattle.std.proofs.Math.Pow.{mod-mod-pow, pow_mono}
use Rattle.std.proofs.Math.Nat.{add-mul-mod_self_right}
use Rattle.std.proofs.lemmas.Bool.Decides.{leb_tells}
use Rattle.std.proofs.lemmas.Bool.{cases_lt}
use Rattle.std.specs.Int.Signed.{mag}
use Rattle.souper_words.specs.Numbers.{signed, bits_of, is_out}

-- how many bits are left
pub rest_of : (w : ℕ) → w ≤ 128 → (128 - w) + w ≡ 128
rest_of w h = omega arith

pub mask_is : (w : ℕ) → w ≤ 128 → (2 ^ 128 - 1) / 2 ^ (128 - w) ≡ 2 ^ w - 1
mask_is w h = ones_shr 128 (128 - w) (omega arith) ∙ ap (λ k. 2 ^ k - 1) (omega arith)

-- 2^w is twice 2^(w-1)
pub power_twice : (w : ℕ) → 1 ≤ w → 2 ^ w ≡ 2 ^ (w - 1) + 2 ^ (w - 1)
power_twice w h = ap (λ k. 2 ^ k) (let e : w ≡ (w - 1) + 1 = omega arith in e) ∙ pow-add 2 (w - 1) 1 ∙ omega arith

pub minus_above : (n m : ℕ) → n < m → pos n -ℤ pos m ≡ negsuc (m - 1 - n)
minus_above n m h = omega (arith, ints)

pub minus_below : (n m : ℕ) → m ≤ n → pos n -ℤ pos m ≡ pos (n - m)
minus_below n m h = omega (arith, ints)

-- a number that has its top bit, as a signed one
pub signed-high : (w n : ℕ) → 2 ^ (w - 1) ≤ n → n < 2 ^ w → signed w n ≡ negsuc (2 ^ w - 1 - n)
signed-high w n h k =
    let e : ltb n (2 ^ (w - 1)) ≡ false = grind (arith, leb_tells) in
    ap (λ t. cond t (pos n) (pos n -ℤ pos (2 ^ w))) e ∙ minus_above n (2 ^ w) k

pub signed-low : (w n : ℕ) → n < 2 ^ (w - 1) → signed w n ≡ pos n
signed-low w n h = grind (arith, leb_tells)

pub mod_of_128 : (w n : ℕ) → w ≤ 128 → n % 2 ^ 128 % 2 ^ w ≡ n % 2 ^ w
mod_of_128 w n h = ap (λ k. n % 2 ^ k % 2 ^ w) (sym (rest_of w h)) ∙ mod-mod-pow n (128 - w) w

complement_sum : (p m k q r x : ℕ) → p ≡ x + 1 + q → q * m + r ≡ k → r < m → p * m - suc k ≡ x * m + (m - 1 - r)
complement_sum p m k q r x e d h = let f : p * m ≡ (x + 1 + q) * m = ap (λ n. n * m) e in omega arith

complement_block : (p m k q r w : ℕ) → m ≡ 2 ^ w → q < p → q * m + r ≡ k → r < m → (p * m - suc k) % m ≡ m - 1 - r
complement_block p m k q r w e h d l =
    let f : p * m - suc k ≡ (p - 1 - q) * m + (m - 1 - r) = complement_sum p m k q r (p - 1 - q) (omega arith) d l in
    let s : m - 1 - r < m = omega arith in
    ap (λ n. n % m) f ∙ mod-mul-add (p - 1 - q) m (m - 1 - r) s

complement-mod : (j w k : ℕ) → k < 2 ^ (j + w) → (2 ^ (j + w) - suc k) % 2 ^ w ≡ 2 ^ w - 1 - k % 2 ^ w
complement-mod j w k h =
    let e : 2 ^ (j + w) ≡ 2 ^ j * 2 ^ w = pow-add 2 j w in
    let b : k < 2 ^ j * 2 ^ w = rw (← e) h in
    let q : k / 2 ^ w < 2 ^ j = div_below k (2 ^ w) (2 ^ j) (pow_pos w) b in
    let d : k / 2 ^ w * 2 ^ w + k % 2 ^ w ≡ k = shr_split k w in
    let r : k % 2 ^ w < 2 ^ w = mod_below k (2 ^ w) (pow_pos w) in
    ap (λ n. (n - suc k) % 2 ^ w) e ∙ complement_block (2 ^ j) (2 ^ w) k (k / 2 ^ w) (k % 2 ^ w) w refl q d r

pub bits_of-cast : (w : ℕ) (z : ℤ) → w ≤ 128 → FitsSigned w128 z → cast_unsigned w128 z % 2 ^ w ≡ bits_of w z
bits_of-cast w (pos k) h f = refl
bits_of-cast w (negsuc k) h f =
    let l : k < 2 ^ 127 = f.sfits in
    let b : k < 2 ^ ((128 - w) + w) = rw (rest_of w h) (omega arith) in
    let e : (2 ^ ((128 - w) + w) - suc k) % 2 ^ w ≡ 2 ^ w - 1 - k % 2 ^ w = complement-mod (128 - w) w k b in
    ap (λ n. (2 ^ n - suc k) % 2 ^ w) (sym (rest_of w h)) ∙ e

or-false : (t : Bool) → (t || false) ≡ t
or-false true = refl
or-false false = refl

size_test : (m : ℕ) (z : ℤ) → 0 < m → (int_lt z (neg_ℤ (pos m)) || int_le (pos m) z) ≡ leb m (mag z)
size_test zero z h = absurd (omega arith)
size_test (suc m) (pos a) h = refl
size_test (suc m) (negsuc a) h = or-false (ltb m a)

-- a number is out if and only if its size is
pub is_out-size : (w : ℕ) (z : ℤ) → is_out w z ≡ leb (2 ^ (w - 1)) (mag z)
is_out-size w z = size_test (2 ^ (w - 1)) z (pow_pos (w - 1))

-- a number of more than 128 bits has more than w
pub is_out-wide : (w : ℕ) (z : ℤ) → w ≤ 128 → ¬ FitsSigned w128 z → is_out w z ≡ true
is_out-wide w z h f =
    let k : w - 1 ≤ 127 = omega arith in let p : 2 ^ (w - 1) ≤ 2 ^ 127 = pow_mono k in
    is_out-size w z ∙ elim (leb_tells (2 ^ (w - 1)) (mag z)) [ inl t ↦ t.0 | inr t ↦ absurd (f (record { sfits = omega (arith, p, t.1) })) ]

below_test : (a g m : ℕ) → m ≡ g + 1 → ltb g a ≡ false → leb m a ≡ false
below_test a g m e h = grind (arith, leb_tells)

-- the greatest signed number of w bits, and one less than the least
pub half_mask : (w : ℕ) → 1 ≤ w → (2 ^ w - 1) / 2 ≡ 2 ^ (w - 1) - 1
half_mask w h = let e : 2 ^ w ≡ 2 ^ (w - 1) + 2 ^ (w - 1) = power_twice w h in let p : 0 < 2 ^ (w - 1) = pow_pos (w - 1) in omega arith

-- a number above the greatest, of those that are not below the least
above-is_out : (w : ℕ) (z : ℤ) → int_lt z (negsuc (2 ^ (w - 1) - 1)) ≡ false → int_lt (pos (2 ^ (w - 1) - 1)) z ≡ is_out w z
above-is_out w (pos a) h = let p : 0 < 2 ^ (w - 1) = pow_pos (w - 1) in ap (λ n. leb n a) (let e : suc (2 ^ (w - 1) - 1) ≡ 2 ^ (w - 1) = omega arith in e) ∙ sym (is_out-size w (pos a))
above-is_out w (negsuc a) h =
    let p : 0 < 2 ^ (w - 1) = pow_pos (w - 1) in
    let e : leb (2 ^ (w - 1)) a ≡ false = below_test a (2 ^ (w - 1) - 1) (2 ^ (w - 1)) (omega arith) h in
    sym (is_out-size w (negsuc a) ∙ e)

high-cast : (g : ℕ) → g < 2 ^ 127 → cast_signed w128 (2 ^ 128 - 1 - g) ≡ negsuc g
high-cast g h =
    let e : ltb (2 ^ 128 - 1 - g) (2 ^ 127) ≡ false = grind (arith, leb_tells) in
    let f : 2 ^ 128 - suc (2 ^ 128 - 1 - g) ≡ g = omega arith in
    ap (λ t. cond t (pos (2 ^ 128 - 1 - g)) (negsuc (2 ^ 128 - suc (2 ^ 128 - 1 - g)))) e ∙ ap negsuc f

-- the code's tests, with numbers as the code has them
pub tests-is_out : (w : ℕ) (z : ℤ) (g : ℕ) → w ≤ 128 → FitsSigned w128 z → g ≡ 2 ^ (w - 1) - 1 → int_lt (cast_signed w128 (cast_unsigned w128 z)) (cast_signed w128 (2 ^ 128 - 1 - g)) ≡ false → int_lt (cast_signed w128 g) (cast_signed w128 (cast_unsigned w128 z)) ≡ is_out w z
tests-is_out w z g h f e t =
    let k : w - 1 ≤ 127 = omega arith in
    let p : 2 ^ (w - 1) ≤ 2 ^ 127 = pow_mono k in
    let l : 0 < 2 ^ (w - 1) = pow_pos (w - 1) in
    let a : cast_signed w128 g ≡ pos g = omega (arith, ints) in
    let b : cast_signed w128 (2 ^ 128 - 1 - g) ≡ negsuc g = high-cast g (omega arith) in
    let i : cast_signed w128 (cast_unsigned w128 z) ≡ z = to_z-of_z w128 z f in
    let u : int_lt z (negsuc (2 ^ (w - 1) - 1)) ≡ false = ap (λ n. int_lt z (negsuc n)) (sym e) ∙ sym (ap (λ x. int_lt x (negsuc g)) i) ∙ sym (ap (int_lt (cast_signed w128 (cast_unsigned w128 z))) b) ∙ t in
    ap (λ x. int_lt x (cast_signed w128 (cast_unsigned w128 z))) a ∙ ap (int_lt (pos g)) i ∙ ap (λ n. int_lt (pos n) z) e ∙ above-is_out w z u

less : (w a b : ℕ) → w ≤ 128 → b < 2 ^ 128 → a < b → (a + (2 ^ 128 - b)) % 2 ^ 128 % 2 ^ w ≡ bits_of w (pos a -ℤ pos b)
less w a b h q l =
    let e : a + (2 ^ 128 - b) ≡ 2 ^ 128 - suc (b - 1 - a) = omega arith in
    let f : (2 ^ ((128 - w) + w) - suc (b - 1 - a)) % 2 ^ w ≡ 2 ^ w - 1 - (b - 1 - a) % 2 ^ w = complement-mod (128 - w) w (b - 1 - a) (rw (rest_of w h) (omega arith)) in
    mod_of_128 w (a + (2 ^ 128 - b)) h ∙ ap (λ n. n % 2 ^ w) e ∙ ap (λ n. (2 ^ n - suc (b - 1 - a)) % 2 ^ w) (sym (rest_of w h)) ∙ f
    ∙ sym (ap (bits_of w) (minus_above a b l))

more : (w a b : ℕ) → w ≤ 128 → b < 2 ^ 128 → b ≤ a → (a + (2 ^ 128 - b)) % 2 ^ 128 % 2 ^ w ≡ bits_of w (pos a -ℤ pos b)
more w a b h q l =
    let e : a + (2 ^ 128 - b) ≡ (a - b) + 2 ^ 128 = omega arith in
    let f : 2 ^ 128 ≡ 2 ^ (128 - w) * 2 ^ w = ap (λ n. 2 ^ n) (sym (rest_of w h)) ∙ pow-add 2 (128 - w) w in
    mod_of_128 w (a + (2 ^ 128 - b)) h ∙ ap (λ n. n % 2 ^ w) (e ∙ ap (λ n. (a - b) + n) f) ∙ add-mul-mod_self_right (a - b) (2 ^ (128 - w)) (2 ^ w)
    ∙ sym (ap (bits_of w) (minus_below a b l))

-- the difference that the code computes
pub difference_bits : (w a b : ℕ) → w ≤ 128 → a < 2 ^ 128 → b < 2 ^ 128 → (a + (2 ^ 128 - b)) % 2 ^ 128 % 2 ^ w ≡ bits_of w (pos a -ℤ pos b)
difference_bits w a b h p q = elim (cases_lt a b) [ inl l ↦ less w a b h q l | inr l ↦ more w a b h q l ]

-- a number of 128 bits or more has w or more
pub exceeds_wide : (w m : ℕ) → w ≤ 128 → ¬ (m < 2 ^ 128) → leb (2 ^ w) m ≡ true
exceeds_wide w m h f =
    let p : 2 ^ w ≤ 2 ^ 128 = pow_mono h in
    elim (leb_tells (2 ^ w) m) [ inl t ↦ t.0 | inr t ↦ absurd (f (omega (arith, p, t.1))) ]
