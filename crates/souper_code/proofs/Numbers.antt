-- The number at the front of a code is the one that was encoded there.
use Rattle.std.proofs.Common.{◌≡◌, ℕ, ◌<◌, ◌≤◌, ◌^◌, List, ◌++◌, length, take, drop, ◌∙◌, ap, arith}
use Rattle.std.specs.Int.{w16, w32, w64, from_le_bytes}
use Rattle.std.proofs.lemmas.Nat.{from_le_bytes-to_le_bytes_2, from_le_bytes-to_le_bytes_4, from_le_bytes-to_le_bytes_8}
use Rattle.souper_code.specs.Codes.{code_of_u16, code_of_u32, code_of_size}

pub u16_front : (all front back rest : List ℕ) (m n : ℕ) → front ≡ take 2 all → back ≡ drop 2 all → m ≡ from_le_bytes w16 front → n < 2 ^ 16 → all ≡ code_of_u16 n ++ rest
    → (m ≡ n) × (back ≡ rest)
unfolding code_of_u16
u16_front all front back rest m n front_is back_is value less e = (
  value ∙ ap (from_le_bytes w16) (front_is ∙ ap (take 2) e) ∙ from_le_bytes-to_le_bytes_2 n less,
  back_is ∙ ap (drop 2) e,
)

pub u16_length : (all rest : List ℕ) (n : ℕ) → all ≡ code_of_u16 n ++ rest → 2 ≤ length all
unfolding code_of_u16
u16_length all rest n e = rw e (omega arith)

pub u32_front : (all front back rest : List ℕ) (m n : ℕ) → front ≡ take 4 all → back ≡ drop 4 all → m ≡ from_le_bytes w32 front → n < 2 ^ 32 → all ≡ code_of_u32 n ++ rest
    → (m ≡ n) × (back ≡ rest)
unfolding code_of_u32
u32_front all front back rest m n front_is back_is value less e = (
  value ∙ ap (from_le_bytes w32) (front_is ∙ ap (take 4) e) ∙ from_le_bytes-to_le_bytes_4 n less,
  back_is ∙ ap (drop 4) e,
)

pub u32_length : (all rest : List ℕ) (n : ℕ) → all ≡ code_of_u32 n ++ rest → 4 ≤ length all
unfolding code_of_u32
u32_length all rest n e = rw e (omega arith)

pub size_front : (all front back rest : List ℕ) (m n : ℕ) → front ≡ take 8 all → back ≡ drop 8 all → m ≡ from_le_bytes w64 front → n < 2 ^ 64 → all ≡ code_of_size n ++ rest
    → (m ≡ n) × (back ≡ rest)
unfolding code_of_size
size_front all front back rest m n front_is back_is value less e = (
  value ∙ ap (from_le_bytes w64) (front_is ∙ ap (take 8) e) ∙ from_le_bytes-to_le_bytes_8 n less,
  back_is ∙ ap (drop 8) e,
)

pub size_length : (all rest : List ℕ) (n : ℕ) → all ≡ code_of_size n ++ rest → 8 ≤ length all
unfolding code_of_size
size_length all rest n e = rw e (omega arith)
