-- Definitions. What `to_text` returns for an item, and well-formed items of one type.
use Rattle.std.specs.Prelude.{◌≡◌, ℕ, List, [], ◌∷◌, ◌++◌, codes}
use Rattle.std.specs.List.{AllByRecursion}
use Rattle.souper_graph.specs.Values.{Item}
use Rattle.souper_graph.specs.Uses.{UsesBelow}
use Rattle.souper_graph.specs.Faults.{HasBadId}
use Rattle.souper_graph.specs.WellFormed.{WellFormed}
use Rattle.souper_graph.specs.Text.{text_of}
use Rattle.souper_graph.specs.Sameness.{renumbered}
use Rattle.souper_graph.specs.Syntax.Spelling.{ItemType, IsEndingOf, TextSpells}
use Rattle.souper_graph.specs.PrintOrder.{IsLinesOf}

-- a well-formed item of the type
abbrev pub IsWellFormedOf : ItemType → Item → Type 0
IsWellFormedOf k a = WellFormed a × IsEndingOf k a.ending

-- well-formed items of one type
abbrev pub AreWellFormed : ItemType → List Item → Type 0
AreWellFormed k items = AllByRecursion (IsWellFormedOf k) items

-- the text of the item, with a newline after it, spells the item renumbered
abbrev pub ReadsBack : ItemType → Item → List ℕ → Type 0
ReadsBack k a text = TextSpells k (text ++ codes "\n") (renumbered a ∷ [])

-- The text of an item of the type. It is canonical if each needed statement uses lower positions alone.
pub record IsItemText (k : ItemType) (a : Item) (text : List ℕ) : Type 0 where
  pub no_bad_id : ¬ HasBadId a
  pub canonical : UsesBelow a → text ≡ text_of a
  -- what the text spells is the item with its needed statements alone, in printed order
  pub reads_back : WellFormed a → ReadsBack k a text
  pub lines : IsLinesOf a text
