-- Definitions. Outcomes: which one, and its number.
use Rattle.std.specs.Prelude.{ℕ, Bool, true, false, ◌==◌, if◌then◌else◌}
use Rattle.souper_words.specs.declared.outcome.Outcome.{Outcome}
use Rattle.souper_words.specs.declared.outcome.Outcome.TheVariants.{Number, Poison, Undefined}

abbrev pub is_undefined : Outcome → Bool
is_undefined (Number n) = false
is_undefined Poison = false
is_undefined Undefined = true

abbrev pub is_poison : Outcome → Bool
is_poison (Number n) = false
is_poison Poison = true
is_poison Undefined = false

-- the number, or d if the outcome is none
abbrev pub number_or : ℕ → Outcome → ℕ
number_or d (Number n) = n
number_or d Poison = d
number_or d Undefined = d

-- the choice for poison, and any other outcome as it is
abbrev pub frozen : ℕ → Outcome → Outcome
frozen choice (Number n) = Number n
frozen choice Poison = Number choice
frozen choice Undefined = Undefined

-- poison by a poison condition, else the arm that it chooses
abbrev pub selected : Outcome → Outcome → Outcome → Outcome
selected (Number n) a b = if n == 1 then a else b
selected Poison a b = Poison
selected Undefined a b = Undefined
