-- Definitions. What the items of a part give: each is written with its widths, or has a flaw.
use Rattle.std.specs.Prelude.{◌≡◌, ◌⊎◌, Bool, true, false, ℕ, List, [], ◌∷◌, ◌++◌, filter_map, Option, Some, None, Result, Ok, Err}
use Rattle.std.specs.List.{AllZip, list_any}
use Rattle.souper_graph.specs.Values.{Item}
use Rattle.souper_widths.specs.Maps.{WidthMap}
use Rattle.souper_widths.specs.declared.flaws.WidthFlaw.{WidthFlaw}
use Rattle.souper_widths.specs.Flaws.{IsFirstWidthFlaw}
use Rattle.souper_typed.specs.declared.form.Form.{Form}
use Rattle.souper_typed.specs.Written.{IsWritten}
use Rattle.souper_untyped.specs.Says.{says_of, lines_of}

-- an item with its widths written, or the lines of the error of one that has none
abbrev pub Row : Type 0
Row = Result Item (List ℕ)

abbrev pub IsRow : Form → Item → Row → Type 0
IsRow f a (Ok b) = (m : WidthMap) × IsWritten f m a b
IsRow f a (Err lines) = (flaw : WidthFlaw) × IsFirstWidthFlaw a flaw × (lines ≡ lines_of (says_of a flaw))

abbrev pub typed_item : Row → Option Item
typed_item (Ok b) = Some b
typed_item (Err lines) = None

abbrev pub flaw_lines : Row → Option (List ℕ)
flaw_lines (Ok b) = None
flaw_lines (Err lines) = Some lines

abbrev pub is_flawed : Row → Bool
is_flawed (Ok b) = false
is_flawed (Err lines) = true

-- the items with widths
abbrev pub typed_of : List Row → List Item
typed_of rows = filter_map typed_item rows

abbrev pub any_flawed : List Row → Bool
any_flawed rows = list_any is_flawed rows

-- the last row alone has a flaw
pub record EndsFlawed (rows : List Row) : Type 0 where
  pub front : List Row
  pub last : Row
  pub whole : rows ≡ front ++ last ∷ []
  pub none : any_flawed front ≡ false

-- The rows of these items. Without recovery an item without widths is the last that has a row.
pub record IsTaken (recover : Bool) (f : Form) (items : List Item) (rows : List Row) : Type 0 where
  pub front : List Item
  pub rest : List Item
  pub whole : items ≡ front ++ rest
  pub each : AllZip (IsRow f) front rows
  pub all : (recover ≡ true) ⊎ (any_flawed rows ≡ false) → rest ≡ []
  pub first : recover ≡ false → (any_flawed rows ≡ false) ⊎ EndsFlawed rows
