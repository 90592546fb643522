-- Definitions. The numbers, widths and bit lists that words spell.
use Rattle.std.specs.Prelude.{ℕ, ◌-◌, ◌^◌, ℤ, pos, negsuc, neg_ℤ, Bool, true, false, ◌&&◌, List, [], ◌∷◌, length, Option, Some, None, if◌then◌else◌, nat_lt, int_le, ◌==◌}
use Rattle.std.specs.Char.{is_ascii_digit}
use Rattle.std.specs.Str.Parse.{digits_value, signed_digits_value, without_leading_sign}
use Rattle.souper_graph.specs.Syntax.Optional.{◌>>=◌}

-- each byte is a digit
abbrev pub are_digits : List ℕ → Bool
are_digits [] = true
are_digits (c ∷ cs) = is_ascii_digit c && are_digits cs

-- one digit or more
abbrev pub is_numeral : List ℕ → Bool
is_numeral ds = nat_lt 0 (length ds) && are_digits ds

-- within the signed numbers of 128 bits
abbrev pub is_within : ℤ → Bool
is_within z = int_le (neg_ℤ (pos (2 ^ 127))) z && int_le z (pos (2 ^ 127 - 1))

-- The number of a word of digits, perhaps with `-` before them. No token of digits begins with `+`.
abbrev pub number_of : List ℕ → Option ℤ
number_of w = if (is_numeral (without_leading_sign w) && is_within (signed_digits_value 10 w)) then Some (signed_digits_value 10 w) else None

abbrev pub below : ℕ → ℤ → Option ℕ
below limit (pos n) = if nat_lt n limit then Some n else None
below limit (negsuc n) = None

-- the number of a word, if it is from 0 to below the limit: `-0` is 0
abbrev pub count_of : ℕ → List ℕ → Option ℕ
count_of limit w = number_of w >>= below limit

abbrev pub width_if : Bool → ℕ → Option ℕ
width_if b n = if (b && (nat_lt 0 n && nat_lt n (2 ^ 16))) then Some n else None

-- the width that a word spells: `i` (105) and digits of 1 to 65535
abbrev pub width_of : List ℕ → Option ℕ
width_of [] = None
width_of (c ∷ ds) = width_if ((c == 105) && is_numeral ds) (digits_value 10 ds)

-- `0` (48), `1` (49)
abbrev pub bit_of : ℕ → Option Bool
bit_of c = if c == 48 then Some false else (if c == 49 then Some true else None)

-- `0`, `1` or `x` (120), which is not known
abbrev pub known_bit_of : ℕ → Option (Option Bool)
known_bit_of c = if c == 120 then Some None else (bit_of c >>= λ b. Some (Some b))

-- what the characters mean, if each means something
abbrev pub all_of : {A : Type 0} → (ℕ → Option A) → List ℕ → Option (List A)
all_of one [] = Some []
all_of one (c ∷ cs) = one c >>= λ b. (all_of one cs >>= λ bs. Some (b ∷ bs))

abbrev pub listed : {A : Type 0} → List A → Option (List A)
listed [] = None
listed (b ∷ bs) = Some (b ∷ bs)

-- the entries of a pattern, in order; at least one
abbrev pub bits_of : List ℕ → Option (List Bool)
bits_of w = all_of bit_of w >>= listed

abbrev pub known_bits_of : List ℕ → Option (List (Option Bool))
known_bits_of w = all_of known_bit_of w >>= listed
