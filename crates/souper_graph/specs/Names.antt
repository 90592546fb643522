-- Definitions. The names of values.
use Rattle.std.specs.Prelude.{◌≡◌, ℕ, ◌<◌, Bool, true, ◌||◌, ◌==◌, List, [], ◌∷◌, length}
use Rattle.std.specs.List.{AllByRecursion}
use Rattle.std.specs.Char.{is_ascii_alphanumeric}

-- a name character: a digit, a letter, `_` (95) or `.` (46)
abbrev pub is_name_char : ℕ → Bool
is_name_char c = (is_ascii_alphanumeric c || c == 95) || c == 46

-- `%` (37) and one or more name characters
abbrev pub IsName : List ℕ → Type 0
IsName [] = ⊥
IsName (c ∷ s) = (c ≡ 37) × (0 < length s) × AllByRecursion (λ d. is_name_char d ≡ true) s
