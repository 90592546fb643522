-- Definitions. What is known of the items that were read so far.
use Rattle.std.specs.Prelude.{◌≡◌, ℕ, List, ◌∷◌, ◌++◌, Option, Some, None}
use Rattle.std.specs.List.{AllByRecursion}
use Rattle.souper_graph.specs.Values.{Item}
use Rattle.souper_graph.specs.Text.{texts_of}
use Rattle.souper_graph.specs.WellFormed.{WellFormed}
use Rattle.souper_code.specs.declared.write.Place.{Place}
use Rattle.souper_code.specs.Writing.{IsPlaceAfter}

-- the items are well formed and the text is theirs, or the place is where the first is that is not well formed
abbrev pub Judged : List Item → Option Place → List ℕ → Type 0
Judged xs None text = AllByRecursion WellFormed xs × (text ≡ texts_of xs)
Judged xs (Some p) text = (before : List Item) × (x : Item) × (after : List Item) × (xs ≡ before ++ (x ∷ after))
    × AllByRecursion WellFormed before × (¬ (WellFormed x)) × IsPlaceAfter before p
