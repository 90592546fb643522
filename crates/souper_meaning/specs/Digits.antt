-- Definitions. Numbers by their digits, where each place has a count of its own. The first place counts fastest.
use Rattle.std.specs.Prelude.{ℕ, zero, suc, ◌+◌, ◌*◌, ◌/◌, ◌%◌, ◌<◌}

-- how many numbers the first n places have: the product of their counts
abbrev pub product_of : (ℕ → ℕ) → ℕ → ℕ
product_of counts zero = 1
product_of counts (suc n) = product_of counts n * counts n

-- the number that has these digits at its first n places
abbrev pub number_of : (ℕ → ℕ) → (ℕ → ℕ) → ℕ → ℕ
number_of counts digits zero = 0
number_of counts digits (suc n) = number_of counts digits n + digits n * product_of counts n

-- the digit of a number at a place
abbrev pub digit_of : (ℕ → ℕ) → ℕ → ℕ → ℕ
digit_of counts k p = k / product_of counts p % counts p

-- each of the first n digits is below the count of its place
abbrev pub AreDigits : (ℕ → ℕ) → (ℕ → ℕ) → ℕ → Type 0
AreDigits counts digits n = (p : ℕ) → p < n → digits p < counts p
