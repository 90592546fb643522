-- Definitions. The types of items by their numbers.
use Rattle.std.specs.Prelude.{◌≢◌, ℕ, zero, suc, Option, None, Some, IsSomeAnd}
use Rattle.souper_graph.specs.Syntax.Spelling.{ItemType, left_hand_side, right_hand_side, replacement}

-- the type of items with that number
abbrev pub type_of_number : ℕ → Option ItemType
type_of_number zero = Some left_hand_side
type_of_number (suc zero) = Some right_hand_side
type_of_number (suc (suc zero)) = Some replacement
type_of_number _ = None

-- the number stands for a type
abbrev pub IsKind : ℕ → Type 0
IsKind kind = type_of_number kind ≢ None

-- the number stands for a type, and the type has the property
abbrev pub OfType : ℕ → (ItemType → Type 0) → Type 0
OfType kind fact = IsSomeAnd (type_of_number kind) fact
