-- Numbers, widths, bit lists and words as tokens, and what these tokens spell.
use Rattle.std.proofs.Common.{◌≡◌, ℕ, ℤ, pos, negsuc, suc, ◌-◌, ◌<◌, ◌≤◌, ◌^◌, Bool, true, false, List, [], ◌∷◌, length, map, Option, Some, None, get_or, refl, ap, ◌∙◌, arith}
use Rattle.std.specs.Prelude.{decimal, neg_ℤ, not, ◌&&◌, ◌==◌, FitsSigned}
use Rattle.std.specs.Fmt.{signed_decimal}
use Rattle.std.specs.Int.{w128}
use Rattle.std.specs.Char.{is_ascii_digit, is_ascii_alphabetic}
use Rattle.std.specs.Str.Parse.{IsNumeral, AllDigits, digits_value, signed_digits_value, without_leading_sign}
use Rattle.std.proofs.lemmas.Fmt.{decimal_is_IsNumeral_wide}
use Rattle.std.proofs.lemmas.Str.Parse.{digit_from_value}
use Rattle.std.proofs.lemmas.Bool.{le-leb, lt-ltb}
use Rattle.std.proofs.lemmas.Bool.Decides.{nat_tests}
use Rattle.souper_graph.specs.Names.{is_name_char, IsName}
use Rattle.souper_graph.specs.Leaves.{text_of_known_bit, text_of_bit}
use Rattle.souper_graph.specs.Syntax.Tokens.{ident, val_name, known_bits, int, IsLexeme, AllAre, is_bit, begins_int}
use Rattle.souper_graph.specs.Syntax.Numbers.{are_digits, is_numeral, is_within, number_of, count_of, width_of}

-- ---- tokens

digit_is : (c : ℕ) → 48 ≤ c → c ≤ 57 → is_ascii_digit c ≡ true
digit_is c a b = grind (arith, nat_tests)

begins_digit : (c : ℕ) → is_ascii_digit c ≡ true → begins_int c ≡ true
begins_digit c e = rw e refl

name_digit : (c : ℕ) → 48 ≤ c → c ≤ 57 → is_name_char c ≡ true
name_digit c a b = grind (arith, nat_tests)

all_digits : (ds : List ℕ) → AllDigits 10 ds → AllAre is_ascii_digit ds
all_digits [] h = tt
all_digits (c ∷ ds) h = (let r = digit_from_value c h.0 in digit_is c r.0 r.1, all_digits ds h.1)

pub all_names : (ds : List ℕ) → AllDigits 10 ds → AllAre is_name_char ds
all_names [] h = tt
all_names (c ∷ ds) h = (let r = digit_from_value c h.0 in name_digit c r.0 r.1, all_names ds h.1)

numeral_int : (ds : List ℕ) → IsNumeral 10 ds → IsLexeme (int ds)
numeral_int [] h = absurd (let l = h.0 in omega arith)
numeral_int (c ∷ ds) h = let a = all_digits (c ∷ ds) h.1 in (begins_digit c a.0, a.1)

pub name_lexeme : (s : List ℕ) → IsName s → IsLexeme (val_name s)
name_lexeme [] h = h
name_lexeme (c ∷ s) h = h

pub count_lexeme : (n : ℕ) → n < 2 ^ 32 → IsLexeme (int (decimal n))
count_lexeme n h = numeral_int (decimal n) (decimal_is_IsNumeral_wide n (omega arith)).0

pub number_lexeme : (z : ℤ) → FitsSigned w128 z → IsLexeme (int (signed_decimal z))
number_lexeme (pos n) h = numeral_int (decimal n) (decimal_is_IsNumeral_wide n (omega arith)).0
number_lexeme (negsuc n) h = (refl, all_digits (decimal (suc n)) (decimal_is_IsNumeral_wide (suc n) (omega arith)).0.1)

-- a word of the grammar, by a test: no such word begins with `k`
abbrev all_are : (ℕ → Bool) → List ℕ → Bool
all_are p [] = true
all_are p (c ∷ s) = p c && all_are p s

abbrev pub is_word : List ℕ → Bool
is_word [] = false
is_word (c ∷ s) = is_ascii_alphabetic c && (not (c == 107) && all_are is_name_char s)

both_true : (a b : Bool) → (a && b) ≡ true → (a ≡ true) × (b ≡ true)
both_true true b e = (refl, e)
both_true false b e = absurd cc

all_from : (s : List ℕ) → all_are is_name_char s ≡ true → AllAre is_name_char s
all_from [] e = tt
all_from (c ∷ s) e = let b = both_true (is_name_char c) (all_are is_name_char s) e in (b.0, all_from s b.1)

other_letter : (c : ℕ) → not (c == 107) ≡ true → c ≡ 107 → ⊥
other_letter c e h = grind (arith, nat_tests)

pub word_lexeme : (s : List ℕ) → is_word s ≡ true → IsLexeme (ident s)
word_lexeme [] e = absurd cc
word_lexeme (c ∷ s) e =
    let b = both_true (is_ascii_alphabetic c) (not (c == 107) && all_are is_name_char s) e in
    let d = both_true (not (c == 107)) (all_are is_name_char s) b.1 in
    (b.0, all_from s d.1, λ k. other_letter c d.0 (ap (λ (l : List ℕ). get_or l 0 0) k))

pub width_lexeme : (w : ℕ) → w < 2 ^ 16 → IsLexeme (ident (105 ∷ decimal w))
width_lexeme w h = (refl, all_names (decimal w) (decimal_is_IsNumeral_wide w (omega arith)).0.1, λ e. let k : 105 ≡ 107 = ap (λ (l : List ℕ). get_or l 0 0) e in absurd (omega arith))

known_bit_is : (b : Option Bool) → is_bit (text_of_known_bit b) ≡ true
known_bit_is None = refl
known_bit_is (Some true) = refl
known_bit_is (Some false) = refl

bit_is : (b : Bool) → is_ascii_digit (text_of_bit b) ≡ true
bit_is true = refl
bit_is false = refl

all_known_bits : (bs : List (Option Bool)) → AllAre is_bit (map text_of_known_bit bs)
all_known_bits [] = tt
all_known_bits (b ∷ bs) = (known_bit_is b, all_known_bits bs)

all_bits : (bs : List Bool) → AllAre is_ascii_digit (map text_of_bit bs)
all_bits [] = tt
all_bits (b ∷ bs) = (bit_is b, all_bits bs)

pub known_bits_lexeme : (bs : List (Option Bool)) → 0 < length bs → IsLexeme (known_bits (map text_of_known_bit bs))
known_bits_lexeme [] h = absurd (omega arith)
known_bits_lexeme (b ∷ bs) h = ((omega arith), all_known_bits (b ∷ bs))

pub bits_lexeme : (bs : List Bool) → 0 < length bs → IsLexeme (int (map text_of_bit bs))
bits_lexeme [] h = absurd (omega arith)
bits_lexeme (b ∷ bs) h = (begins_digit (text_of_bit b) (bit_is b), all_bits bs)

-- ---- what they spell

are_digits_from : (ds : List ℕ) → AllDigits 10 ds → are_digits ds ≡ true
are_digits_from [] h = refl
are_digits_from (c ∷ ds) h = let r = digit_from_value c h.0 in rw (digit_is c r.0 r.1, are_digits_from ds h.1) refl

numeral_is : (ds : List ℕ) → IsNumeral 10 ds → is_numeral ds ≡ true
numeral_is ds h = rw (lt-ltb 0 (length ds) h.0, are_digits_from ds h.1) refl

-- a numeral has no sign
no_sign : (ds : List ℕ) → IsNumeral 10 ds → without_leading_sign ds ≡ ds
no_sign [] h = absurd (let l = h.0 in omega arith)
no_sign (c ∷ ds) h = let r = digit_from_value c h.1.0 in grind (arith, nat_tests)

plain_value : (ds : List ℕ) → IsNumeral 10 ds → signed_digits_value 10 ds ≡ pos (digits_value 10 ds)
plain_value [] h = absurd (let l = h.0 in omega arith)
plain_value (c ∷ ds) h = let r = digit_from_value c h.1.0 in grind (arith, nat_tests)

within_is : (z : ℤ) → FitsSigned w128 z → is_within z ≡ true
within_is (pos n) h = le-leb n (2 ^ 127 - 1) (omega arith)
within_is (negsuc n) h = rw (le-leb n (2 ^ 127 - 1) (omega arith)) refl

number_by : (w : List ℕ) (z : ℤ) → is_numeral (without_leading_sign w) ≡ true → signed_digits_value 10 w ≡ z → is_within z ≡ true → number_of w ≡ Some z
number_by w z a b c = rw (a, b, c) refl

pub number_spelled : (z : ℤ) → FitsSigned w128 z → number_of (signed_decimal z) ≡ Some z
number_spelled (pos n) h =
    let d = decimal_is_IsNumeral_wide n (omega arith) in
    number_by (decimal n) (pos n) (ap is_numeral (no_sign (decimal n) d.0) ∙ numeral_is (decimal n) d.0) (plain_value (decimal n) d.0 ∙ ap (λ k. pos k) d.1) (within_is (pos n) h)
number_spelled (negsuc n) h =
    let d = decimal_is_IsNumeral_wide (suc n) (omega arith) in
    number_by (signed_decimal (negsuc n)) (negsuc n) (numeral_is (decimal (suc n)) d.0) (ap (λ k. neg_ℤ (pos k)) d.1) (within_is (negsuc n) h)

count_by : (limit n : ℕ) (w : List ℕ) → number_of w ≡ Some (pos n) → n < limit → count_of limit w ≡ Some n
count_by limit n w e h = rw (e, lt-ltb n limit h) refl

pub count_spelled : (limit n : ℕ) → limit ≤ 2 ^ 32 → n < limit → count_of limit (decimal n) ≡ Some n
count_spelled limit n l h = count_by limit n (decimal n) (number_spelled (pos n) (omega arith)) h

width_by : (w : ℕ) (ds : List ℕ) → is_numeral ds ≡ true → digits_value 10 ds ≡ w → 0 < w → w < 2 ^ 16 → width_of (105 ∷ ds) ≡ Some w
width_by w ds a b c d = rw (a, b, lt-ltb 0 w c, lt-ltb w (2 ^ 16) d) refl

pub width_spelled : (w : ℕ) → 0 < w → w < 2 ^ 16 → width_of (105 ∷ decimal w) ≡ Some w
width_spelled w h l =
    let d = decimal_is_IsNumeral_wide w (omega arith) in
    width_by w (decimal w) (numeral_is (decimal w) d.0) d.1 h l
