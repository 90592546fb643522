-- Definitions. Facts of a number of w bits, and which bits of a root are wanted.
use Rattle.std.specs.Prelude.{◌≡◌, ◌≢◌, ℕ, ◌+◌, ◌-◌, ◌/◌, ◌%◌, ◌^◌, ◌<◌, ◌≤◌, ◌⊎◌, Bool, true, false, List, [], ◌∷◌, length, Option, Some, None, bit_and, count_ones, if◌then◌else◌}
use Rattle.souper_graph.specs.Values.{PlainAttribute, known_bits, power_of_two, negative, non_negative, non_zero, has_external_uses, sign_bits, range, PlainRootAttribute, demanded_bits, harvested_from_use}
use Rattle.souper_words.specs.Numbers.{bits_of}

-- a bit is as known; an unknown one is any
abbrev pub IsKnownBit : Option Bool → ℕ → Type 0
IsKnownBit None b = Unit {0}
IsKnownBit (Some true) b = b ≡ 1
IsKnownBit (Some false) b = b ≡ 0

-- the bits of n are as known, the top bit first
abbrev pub HasKnownBits : List (Option Bool) → ℕ → Type 0
HasKnownBits [] n = Unit {0}
HasKnownBits (b ∷ bs) n = IsKnownBit b (n / 2 ^ length bs % 2) × HasKnownBits bs n

-- From low up to high, and from 2^w - 1 on to 0. Equal ends: no number if they are 0, every number if they are 2^w - 1.
abbrev pub IsInRange : ℕ → ℕ → ℕ → ℕ → Type 0
IsInRange w low high n = ((low ≡ high) × (low + 1 ≡ 2 ^ w)) ⊎ ((n + (2 ^ w - low)) % 2 ^ w < (high + (2 ^ w - low)) % 2 ^ w)

-- the top k bits are equal
abbrev pub HasSignBits : ℕ → ℕ → ℕ → Type 0
HasSignBits w k n = (n / 2 ^ (w - k) ≡ 0) ⊎ (n / 2 ^ (w - k) ≡ 2 ^ k - 1)

-- the fact holds of a number n of w bits
abbrev pub HoldsOf : ℕ → ℕ → PlainAttribute → Type 0
HoldsOf w n (known_bits bs) = HasKnownBits bs n
HoldsOf w n power_of_two = count_ones n ≡ 1
HoldsOf w n negative = 2 ^ (w - 1) ≤ n
HoldsOf w n non_negative = n < 2 ^ (w - 1)
HoldsOf w n non_zero = n ≢ 0
HoldsOf w n has_external_uses = Unit {0}
HoldsOf w n (sign_bits k) = HasSignBits w k n
HoldsOf w n (range low high) = IsInRange w (bits_of w low) (bits_of w high) n

-- the number that has the bits, the top bit first
abbrev pub number_of_bits : List Bool → ℕ
number_of_bits [] = 0
number_of_bits (b ∷ bs) = (if b then 2 ^ length bs else 0) + number_of_bits bs

-- the bits of a root of w bits that each `demandedBits` demands, as a number; all of them, if there is none
abbrev pub wanted_bits : ℕ → List PlainRootAttribute → ℕ
wanted_bits w [] = 2 ^ w - 1
wanted_bits w (demanded_bits bs ∷ fs) = bit_and (number_of_bits bs) (wanted_bits w fs)
wanted_bits w (harvested_from_use ∷ fs) = wanted_bits w fs
