-- Definitions. The texts that are written for left-hand sides that a store is asked for.
use Rattle.std.specs.Prelude.{◌≡◌, ℕ, Bool, List, [], ◌∷◌, map, take, Vec, String}
use Rattle.std.specs.String.{string_bytes}
use Rattle.std.specs.declared.alloc.Global.{Global}
use Rattle.souper_graph.specs.Values.{Item}
use Rattle.souper_lookup.specs.Instance.{AreInstances}
use Rattle.souper_lookup.specs.Stored.{Entry, answers, replacements_of}
use Rattle.souper_records.specs.Uniques.{text_by}
use Rattle.souper_records.specs.Outputs.{renames}
use Rattle.souper_records.specs.declared.output.Output.{Output}
use Rattle.souper_find.specs.declared.search.Choice.{Choice}
use Rattle.souper_find.specs.declared.search.Choice.TheVariants.{All, First, Unanswered}

-- the left-hand side, if it has none of these answers
abbrev pub if_unanswered : Item → List Entry → List Item
if_unanswered q [] = q ∷ []
if_unanswered q (e ∷ rest) = []

-- the items that are written for a left-hand side
abbrev pub AreChosen : Choice → List Entry → Item → List Item → Type 0
AreChosen All entries q items = AreInstances q (replacements_of (answers q entries)) items
AreChosen First entries q items = AreInstances q (replacements_of (take 1 (answers q entries))) items
AreChosen Unanswered entries q items = items ≡ if_unanswered q (answers q entries)

-- the texts of instances of these entries
abbrev pub HaveTexts : Bool → Item → List Entry → List (List ℕ) → Type 0
HaveTexts rename q entries texts = (items : List Item) × AreInstances q (replacements_of entries) items × (texts ≡ map (text_by rename) items)

-- the texts that are written for a left-hand side
abbrev pub AreTexts : Choice → Output → List Entry → Item → List (List ℕ) → Type 0
AreTexts c output entries q texts = (items : List Item) × AreChosen c entries q items × (texts ≡ map (text_by (renames output)) items)

-- the bytes of each text
abbrev pub view_texts : Vec (String Global) Global → List (List ℕ)
view_texts texts = map string_bytes texts.items
