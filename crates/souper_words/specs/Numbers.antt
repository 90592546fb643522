-- Definitions. Numbers of w bits: what they are as signed numbers, the bits of any number, and digits.
use Rattle.std.specs.Prelude.{ℕ, zero, suc, ◌+◌, ◌-◌, ◌*◌, ◌/◌, ◌%◌, ◌^◌, Bool, ◌||◌, nat_lt, if◌then◌else◌, ℤ, pos, negsuc, ◌-ℤ◌, neg_ℤ, int_lt, int_le, List, [], ◌∷◌, reverse}

-- the signed number of w bits: n, or n - 2^w if the top bit is 1
abbrev pub signed : ℕ → ℕ → ℤ
signed w n = if nat_lt n (2 ^ (w - 1)) then pos n else pos n -ℤ pos (2 ^ w)

-- the number modulo 2^w; `negsuc k` is -(k + 1)
abbrev pub bits_of : ℕ → ℤ → ℕ
bits_of w (pos k) = k % 2 ^ w
bits_of w (negsuc k) = 2 ^ w - 1 - k % 2 ^ w

-- the number is not from -2^(w-1) to 2^(w-1) - 1
abbrev pub is_out : ℕ → ℤ → Bool
is_out w z = int_lt z (neg_ℤ (pos (2 ^ (w - 1)))) || int_le (pos (2 ^ (w - 1))) z

-- the lowest k digits of n in the base, the lowest first
abbrev pub digits : ℕ → ℕ → ℕ → List ℕ
digits base zero n = []
digits base (suc k) n = n % base ∷ digits base k (n / base)

-- the number that has these digits, the lowest first
abbrev pub number_of : ℕ → List ℕ → ℕ
number_of base [] = 0
number_of base (d ∷ ds) = d + base * number_of base ds

-- the number with its lowest k digits in reverse
abbrev pub reversed : ℕ → ℕ → ℕ → ℕ
reversed base k n = number_of base (reverse (digits base k n))
