-- What `parse` returns, in terms of numbers and widths.
use Rattle.std.proofs.Common.{◌≡◌, ℕ, ◌-◌, ◌^◌, ◌<◌, ◌≢◌, ◌==◌, Bool, true, false, ◌&&◌, ℤ, pos, negsuc, List, [], ◌∷◌, length, Option, Some, None, refl, sym, ◌∙◌, ap, subst, Decides, arith, eqb-true, ◌+◌, drop, lit<}
use Rattle.std.specs.Prelude.{Result, Ok, Err, OkIff, if◌then◌else◌, nat_lt, int_le, FitsSigned}
use Rattle.std.specs.Char.{is_ascii_digit}
use Rattle.std.specs.List.{list_all}
use Rattle.std.specs.Str.Parse.{AllDigits, IsNumeral, digits_value, signed_digits_value, without_leading_sign, ParsesUnsigned}
use Rattle.std.proofs.lemmas.Str.Parse.{IsDigitsTest, IsNumeralModel, numerals_by_value, parse_digits}
use Rattle.std.specs.Borrow.{Bor}
use Rattle.std.specs.Prelude.{MatchOption}
use Rattle.std.proofs.lemmas.Str.Pattern.{strip_prefix_char}
use Rattle.std.specs.Str.Pattern.{FindsCharPrefix}
use Rattle.std.proofs.lemmas.Result.{OkIff-at_ok, OkIff-at_err}
use Rattle.std.proofs.lemmas.Bool.{and_parts, leb-true, ltb-true, lt-ltb, le-leb}
use Rattle.std.proofs.lemmas.Bool.Decides.{Decides-and, Decides-ltb}
use Rattle.std.proofs.lemmas.Int.{to_z-of_z}
use mir.Syntax.{w128}
use mir.Val.{to_z, of_z}
use Rattle.souper_graph.specs.Syntax.Numbers.{are_digits, is_numeral, is_within, number_of, width_of}

pub are_digits-is : (ds : List ℕ) → list_all is_ascii_digit ds ≡ are_digits ds
are_digits-is [] = refl
are_digits-is (c ∷ cs) = ap (λ (b : Bool). is_ascii_digit c && b) (are_digits-is cs)

tells_are_digits : IsDigitsTest (λ ds. are_digits ds ≡ true)
tells_are_digits = record {
  empty = refl;
  parts = λ c cs e. let k = and_parts (is_ascii_digit c) (are_digits cs) e in let m = and_parts _ _ k.0 in ((leb-true 48 c m.0, leb-true c 57 m.1), k.1);
  more = λ c cs k e i. (le-leb 48 c k.0 i && le-leb c 57 k.1 i) && e i;
}

digits_model : IsNumeralModel (λ ds. are_digits ds ≡ true) (digits_value 10)
digits_model = numerals_by_value (λ ds. are_digits ds ≡ true) tells_are_digits

are_digits_decides : (ds : List ℕ) → Decides (are_digits ds) (AllDigits 10 ds)
are_digits_decides ds = (digits_model.to ds, digits_model.from ds)

is_numeral_decides : (ds : List ℕ) → Decides (is_numeral ds) (IsNumeral 10 ds)
is_numeral_decides ds = Decides-and (nat_lt 0 (length ds)) (are_digits ds) (Decides-ltb 0 (length ds)) (are_digits_decides ds)

pub is_within_decides : (z : ℤ) → Decides (is_within z) (FitsSigned w128 z)
is_within_decides (pos n) = (λ e. omega (arith, leb-true n (2 ^ 127 - 1) e), λ h. le-leb n (2 ^ 127 - 1) (omega arith))
is_within_decides (negsuc n) = (λ e. omega (arith, leb-true n (2 ^ 127 - 1) (and_parts (int_le (negsuc (2 ^ 127 - 1)) (negsuc n)) true e).0), λ h. rw (le-leb n (2 ^ 127 - 1) (omega arith)) refl)

-- the number of a word
abbrev IsNumber : List ℕ → Type 0
IsNumber w = IsNumeral 10 (without_leading_sign w) × FitsSigned w128 (signed_digits_value 10 w)

abbrev is_number : List ℕ → Bool
is_number w = is_numeral (without_leading_sign w) && is_within (signed_digits_value 10 w)

is_number_decides : (w : List ℕ) → Decides (is_number w) (IsNumber w)
is_number_decides w = Decides-and (is_numeral (without_leading_sign w)) (is_within (signed_digits_value 10 w)) (is_numeral_decides (without_leading_sign w)) (is_within_decides (signed_digits_value 10 w))

some_if : {A : Type 0} (b : Bool) (x y : A) → b ≡ true → x ≡ y → (if b then Some x else None) ≡ Some y
some_if true x y e f = ap Some f
some_if false x y e f = absurd cc

none_if : {A : Type 0} (b : Bool) (x : A) → (b ≡ true → ⊥) → ◌≡◌ {A = Option A} (if b then Some x else None) None
none_if true x h = absurd (h refl)
none_if false x h = refl

pub number_read : (w : List ℕ) (z : ℤ) → IsNumber w × (z ≡ signed_digits_value 10 w) → number_of w ≡ Some (to_z w128 (of_z w128 z))
number_read w z h =
    let fits : FitsSigned w128 z = subst (FitsSigned w128) (sym h.1) h.0.1 in
    some_if (is_number w) (signed_digits_value 10 w) (to_z w128 (of_z w128 z)) ((is_number_decides w).1 h.0) (sym h.1 ∙ sym (to_z-of_z w128 z fits))

pub number_refused : (w : List ℕ) → ¬ (IsNumber w) → number_of w ≡ None
number_refused w h = none_if (is_number w) (signed_digits_value 10 w) (λ e. h ((is_number_decides w).0 e))

pub numeral_is : (ds : List ℕ) → 0 < length ds → are_digits ds ≡ true → is_numeral ds ≡ true
numeral_is ds h d = rw (lt-ltb 0 (length ds) h) d

-- ---- widths

abbrev is_width : List ℕ → Bool
is_width ds = is_numeral ds && (nat_lt 0 (digits_value 10 ds) && nat_lt (digits_value 10 ds) (2 ^ 16))

abbrev width_in : List ℕ → Option ℕ
width_in ds = if is_width ds then Some (digits_value 10 ds) else None

no_width : (w : List ℕ) → ((rest : List ℕ) → w ≢ 105 ∷ rest) → None ≡ width_of w
no_width [] h = refl
no_width (c ∷ ds) h = sym (none_if (((c == 105) && is_numeral ds) && (nat_lt 0 (digits_value 10 ds) && nat_lt (digits_value 10 ds) (2 ^ 16))) (digits_value 10 ds)
    (λ e. h ds (ap (λ (x : ℕ). x ∷ ds) (eqb-true c 105 (and_parts (c == 105) (is_numeral ds) (and_parts ((c == 105) && is_numeral ds) (nat_lt 0 (digits_value 10 ds) && nat_lt (digits_value 10 ds) (2 ^ 16)) e).0).0))))

-- after the `i`, if the word begins with it
module _ (w : List ℕ) (r : Option (Bor (List ℕ))) (cases : MatchOption r (FindsCharPrefix 105 w None) (λ x. (n : ℕ) × FindsCharPrefix 105 w (Some n) × (x.now ≡ drop n w) × (length x.now + n ≡ length w))) where
  by_prefix : (o : Option (Bor (List ℕ))) → r ≡ o → MatchOption o ((rest : List ℕ) → w ≢ 105 ∷ rest) (λ x. w ≡ 105 ∷ x.now)
  by_prefix o e = subst (λ (z : Option (Bor (List ℕ))). MatchOption z ((rest : List ℕ) → w ≢ 105 ∷ rest) (λ x. w ≡ 105 ∷ x.now)) e (strip_prefix_char 105 w r cases (lit< tt))

  pub width_of_no_prefix : r ≡ None → None ≡ width_of w
  width_of_no_prefix e = no_width w (by_prefix None e)

  pub digits_behind : (x : Bor (List ℕ)) → r ≡ Some x → w ≡ 105 ∷ x.now
  digits_behind x e = by_prefix (Some x) e

width_by : (w ds : List ℕ) → w ≡ 105 ∷ ds → width_of w ≡ width_in ds
width_by w ds e = ap width_of e

-- what `parse` returns if each byte is a digit
width_parsed : {E : Type 0} (ds : List ℕ) (r : Result ℕ E) → are_digits ds ≡ true → ParsesUnsigned 16 10 ds r → OkIff r ((0 < length ds) × (digits_value 10 ds < 2 ^ 16)) (digits_value 10 ds)
width_parsed ds r d h = parse_digits digits_model 16 ds r h d

pub width_read : {E : Type 0} (w ds : List ℕ) (n : ℕ) (r : Result ℕ E) → w ≡ 105 ∷ ds → are_digits ds ≡ true → ParsesUnsigned 16 10 ds r → r ≡ Ok n → 0 < n → Some n ≡ width_of w
width_read w ds n r e d h is more =
    let k = OkIff-at_ok r ((0 < length ds) × (digits_value 10 ds < 2 ^ 16)) (digits_value 10 ds) n (width_parsed ds r d h) is in
    let long : nat_lt 0 (length ds) ≡ true = lt-ltb 0 (length ds) k.0.0 in
    let positive : nat_lt 0 (digits_value 10 ds) ≡ true = lt-ltb 0 (digits_value 10 ds) (subst (λ (x : ℕ). 0 < x) k.1 more) in
    let small : nat_lt (digits_value 10 ds) (2 ^ 16) ≡ true = lt-ltb (digits_value 10 ds) (2 ^ 16) k.0.1 in
    sym (width_by w ds e ∙ some_if (is_width ds) (digits_value 10 ds) n (rw (long, d, positive, small) refl) (sym k.1))

pub width_refused : {E : Type 0} (w ds : List ℕ) (r : Result ℕ E) (x : E) → w ≡ 105 ∷ ds → are_digits ds ≡ true → ParsesUnsigned 16 10 ds r → r ≡ Err x → None ≡ width_of w
width_refused w ds r x e d h is =
    let no = OkIff-at_err r ((0 < length ds) × (digits_value 10 ds < 2 ^ 16)) (digits_value 10 ds) x (width_parsed ds r d h) is in
    sym (width_by w ds e ∙ none_if (is_width ds) (digits_value 10 ds) (λ t.
    let k = and_parts (is_numeral ds) (nat_lt 0 (digits_value 10 ds) && nat_lt (digits_value 10 ds) (2 ^ 16)) t in
    no (ltb-true 0 (length ds) (and_parts (nat_lt 0 (length ds)) (are_digits ds) k.0).0, ltb-true (digits_value 10 ds) (2 ^ 16) (and_parts (nat_lt 0 (digits_value 10 ds)) (nat_lt (digits_value 10 ds) (2 ^ 16)) k.1).1)))
