-- Definitions. The report on a text of left-hand sides.
use Rattle.std.specs.Prelude.{◌≡◌, ◌⊎◌, ℕ, List, ◌∷◌, ◌++◌, length, codes, decimal, Some}
use Rattle.souper_graph.specs.Values.{Item}
use Rattle.souper_graph.specs.Syntax.Spelling.{TextSpells, SpellsNone, left_hand_side}
use Rattle.souper_errors.specs.Places.{IsRefusalText}

-- the number of items that the source spells
abbrev pub ReportsCount : List ℕ → List ℕ → Type 0
ReportsCount source text = (items : List Item) × TextSpells left_hand_side source items × (text ≡ codes "left-hand sides: " ++ decimal (length items))

-- the source spells no items: the offset of the parse error, and then what the error shows
abbrev pub ReportsRefusal : List ℕ → List ℕ → Type 0
ReportsRefusal source text = SpellsNone left_hand_side source
    × ((offset : ℕ) × (shown : List ℕ) × IsRefusalText (Some (codes "input.souper")) source offset shown
    × (text ≡ codes "refused at byte " ++ (decimal offset ++ 10 ∷ shown)))

abbrev pub IsReport : List ℕ → List ℕ → Type 0
IsReport source text = ReportsCount source text ⊎ ReportsRefusal source text
