-- Definitions. Which widths the classes of nodes tell, and the first place where they tell none.
use Rattle.std.specs.Prelude.{◌≡◌, ◌≢◌, ℕ, ◌+◌, ◌*◌, Bool, List, length, slice_index}
use Rattle.souper_graph.specs.declared.ast.flaws.FlawLocation.{FlawLocation}
use Rattle.souper_graph.specs.declared.ast.flaws.FlawLocation.TheVariants.{Statement}
use Rattle.souper_graph.specs.Values.{PlainStatement, Item}
use Rattle.souper_graph.specs.Flaws.{IsBefore}
use Rattle.souper_widths.specs.declared.rows.Row.{Row}
use Rattle.souper_widths.specs.declared.rows.Row.TheVariants.{Input, Block, BadPart, Condition}
use Rattle.souper_widths.specs.Maps.{WidthMap}
use Rattle.souper_widths.specs.Places.{IsPlace}
use Rattle.souper_widths.specs.Forest.{filled, TellsWidths}
use Rattle.souper_widths.specs.Nodes.{row_at, map_of, ClassesOf}

-- the row shows the width of a result, of operands
abbrev pub ShowsResult : Row → Type 0
ShowsResult Block = ⊥
ShowsResult BadPart = ⊥
ShowsResult Condition = ⊥
ShowsResult r = Unit {0}

abbrev pub ShowsOperands : Row → Type 0
ShowsOperands Input = ⊥
ShowsOperands Block = ⊥
ShowsOperands BadPart = ⊥
ShowsOperands r = Unit {0}

-- each width that the row shows is told; 0 stands for one that is not
abbrev pub IsToldRow : Row → ℕ → ℕ → Type 0
IsToldRow r x y = (ShowsResult r → x ≢ 0) × (ShowsOperands r → y ≢ 0)

-- a number tells each width that the place shows
abbrev pub IsTold : Item → List ℕ → FlawLocation → Type 0
IsTold a ws (Statement p) = IsToldRow (row_at a.statements p) (slice_index ws (2 * p)) (slice_index ws (2 * p + 1))
IsTold a ws l = slice_index ws (2 * length a.statements) ≢ 0

abbrev pub AllTold : Item → List ℕ → Type 0
AllTold a ws = (l : FlawLocation) → IsPlace a l → IsTold a ws l

-- the place is the first that is not told
pub record IsFirstUntold (a : Item) (ws : List ℕ) (l : FlawLocation) : Type 0 where
  pub place : IsPlace a l
  pub untold : ¬ IsTold a ws l
  pub before : (k : FlawLocation) → IsPlace a k → IsBefore k l → IsTold a ws k

-- the widths are those that the classes of all places tell
pub record TellsItem (a : Item) (ws : List ℕ) : Type 0 where
  pub parents : List ℕ
  pub numbers : List ℕ
  pub classes : ClassesOf a (λ k. Unit {0}) parents numbers
  pub tells : TellsWidths parents numbers ws
  pub size : length ws ≡ 2 * length a.statements + 1

-- the map of the widths of nodes, with 1 for those that are not told
abbrev pub map_told : List PlainStatement → List Bool → List ℕ → WidthMap
map_told ss marks ws = map_of ss marks (filled 1 ws)
