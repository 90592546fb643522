-- Definitions. What a sink holds of the items that were passed to it.
use Rattle.std.specs.Prelude.{ℕ, List, ◌++◌}
use Rattle.souper_graph.specs.Values.{Item}
use Rattle.souper_graph.specs.Syntax.Tokens.{Lexeme, Begins}
use Rattle.souper_graph.specs.Syntax.Spelling.{kinds, ItemType, items, TextSpells}

-- what a sink held before, it holds now with the items after it, whatever sink it is compared with
abbrev pub TakesOver : {S : Type 0} → (S → S → List Item → Type 0) → List Item → S → S → Type 0
TakesOver {S} holds xs old new = (first : S) (before : List Item) → holds first old before → holds first new (before ++ xs)

-- the sink took the items that the text spells
abbrev pub TakesText : {S : Type 0} → (S → S → List Item → Type 0) → ItemType → List ℕ → S → S → Type 0
TakesText holds k source old new = (xs : List Item) × TextSpells k source xs × TakesOver holds xs old new

-- the tokens that the text begins with spell the items
abbrev pub PrefixSpells : ItemType → List ℕ → List Item → Type 0
PrefixSpells k source xs = (ts : List (ℕ × Lexeme)) × (rest : List ℕ) × Begins 0 source ts rest × items k xs (kinds ts)

-- the sink took the items that tokens spell with which the text begins
abbrev pub TakesPrefix : {S : Type 0} → (S → S → List Item → Type 0) → ItemType → List ℕ → S → S → Type 0
TakesPrefix holds k source old new = (xs : List Item) × PrefixSpells k source xs × TakesOver holds xs old new
