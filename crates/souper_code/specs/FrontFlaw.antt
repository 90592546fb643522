-- Definitions. The first flaw of the item whose code the bytes begin with.
use Rattle.std.specs.Prelude.{◌≡◌, ℕ, List, ◌++◌, Option, Some, None}
use Rattle.souper_graph.specs.declared.ast.flaws.Flaw.{Flaw}
use Rattle.souper_graph.specs.Values.{Item}
use Rattle.souper_graph.specs.WellFormed.{WellFormed}
use Rattle.souper_graph.specs.Flaws.{IsFirstFlaw}
use Rattle.souper_graph.specs.Syntax.Spelling.{ItemType}
use Rattle.souper_code.specs.Codes.{code_of}
use Rattle.souper_code.specs.Codable.{CodableItem}

-- the item is well formed, or this is its first flaw
abbrev pub IsFlawOf : Item → Option Flaw → Type 0
IsFlawOf x None = WellFormed x
IsFlawOf x (Some flaw) = (¬ WellFormed x) × IsFirstFlaw x flaw

-- the bytes begin with the code of an item of the type, which has that flaw, or none
abbrev pub BeginsWithFlaw : ItemType → List ℕ → Option Flaw → Type 0
BeginsWithFlaw k code found = (x : Item) × (rest : List ℕ) × CodableItem k x × (code ≡ code_of x ++ rest) × IsFlawOf x found
