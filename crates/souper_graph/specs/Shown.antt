-- Definitions. What `append_text` appends, and what `Display` writes of an item whose statements need not be in printed order.
use Rattle.std.specs.Prelude.{◌≡◌, ℕ, List, ◌++◌, Option, Some, None, if◌then◌else◌, Result, IsOk}
use Rattle.std.specs.Fmt.{WritesOnOk, WritesStyledOnOk}
use Rattle.std.specs.declared.fmt.Error.{Error}
use Rattle.std.specs.declared.fmt.Formatter.{Formatter}
use Rattle.souper_graph.specs.Values.{Item}
use Rattle.souper_graph.specs.Text.{text_of}
use Rattle.souper_graph.specs.Syntax.Spelling.{ItemType}
use Rattle.souper_graph.specs.PrintOrder.{IsLinesOf, uses_below}
use Rattle.souper_graph.specs.ItemText.{IsItemText}

-- the canonical text, if each needed statement uses positions below it alone
abbrev pub shown_text : Item → Option (List ℕ)
shown_text a = if uses_below a then Some (text_of a) else None

-- if r is `Ok`, g is f after writing the lines of the item's needed statements and its last lines, whatever f's options
-- are
abbrev pub ShowsLines : {W : Type 0} → (W → List ℕ → W → Type 0) → Item → Formatter W → Result (Unit {0}) Error → Formatter W → Type 0
ShowsLines took a f r g = IsOk r → (text : List ℕ) × IsLinesOf a text × WritesOnOk took f r text g × WritesStyledOnOk took f r text g

-- what was there, and then the text
abbrev pub AppendsItemText : ItemType → Item → List ℕ → List ℕ → Type 0
AppendsItemText k a before after = (text : List ℕ) × (after ≡ before ++ text) × IsItemText k a text
