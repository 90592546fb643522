-- Definitions. The first flaw of an item that has no widths: of the first class that has one, there at the first place, and
-- there the first reason.
use Rattle.std.specs.Prelude.{◌≡◌, ℕ, ◌⊎◌, List, [], ◌∷◌, ◌++◌, Option, Some, None, slice_get}
use Rattle.souper_graph.specs.declared.ast.operands.«Type».{«Type» as Ty}
use Rattle.std.specs.List.{AllByRecursion}
use Rattle.souper_graph.specs.declared.ast.flaws.FlawLocation.{FlawLocation}
use Rattle.souper_graph.specs.declared.ast.flaws.FlawLocation.TheVariants.{Statement}
use Rattle.souper_graph.specs.Values.{PlainStatement, Item}
use Rattle.souper_graph.specs.Flaws.{IsBefore}
use Rattle.souper_widths.specs.declared.flaws.WidthFlaw.{WidthFlaw}
use Rattle.souper_widths.specs.declared.flaws.WidthReason.{WidthReason}
use Rattle.souper_widths.specs.declared.flaws.WidthReason.TheVariants.{TypedBlock, FactOnComputed, BlockAsValue, PairAsValue, NotAPair, BadIndex, Conflict, Undetermined, NotWider, NotNarrower, ByteSwap, ConstantTooWide, BitCount, SignBits, Range}
use Rattle.souper_widths.specs.Maps.{WidthMap, AgreeAt}
use Rattle.souper_widths.specs.Equations.{Equation, Holds, width_by, left_side, right_side}
use Rattle.souper_widths.specs.Places.{IsPlace, equations_at, SolvesAt, SolvesBefore}
use Rattle.souper_widths.specs.Table.{row_of, written_type}
use Rattle.souper_widths.specs.Shape.{IsPairRow, ShapedAt, shape_reasons, HasShape}
use Rattle.souper_widths.specs.Limits.{KeepsAt, limit_reasons}
use Rattle.souper_widths.specs.Typed.{HasWidths}

-- the reason is the first of the list whose condition fails
abbrev pub IsFirstFailing : (WidthReason → Type 0) → List WidthReason → WidthReason → Type 0
IsFirstFailing Meets [] r = ⊥
IsFirstFailing Meets (x ∷ xs) r = ((x ≡ r) × ¬ Meets x) ⊎ (Meets x × IsFirstFailing Meets xs r)

-- the place is the first with a reason of the class, and the reason is the first there
pub record IsFirstOfClass (a : Item) (Meets : FlawLocation → WidthReason → Type 0) (reasons : List WidthReason) (l : FlawLocation) (r : WidthReason) : Type 0 where
  pub place : IsPlace a l
  pub first : IsFirstFailing (Meets l) reasons r
  pub before : (k : FlawLocation) → IsPlace a k → IsBefore k l → AllByRecursion (Meets k) reasons

-- The first equation here that fails: what comes before it has a solution, and none solves it too. The widths are those of
-- its sides, in each of these solutions.
pub record HasFailing (a : Item) (l : FlawLocation) (left right : ℕ) : Type 0 where
  pub front : List Equation
  pub failing : Equation
  pub back : List Equation
  pub here : equations_at a l ≡ front ++ failing ∷ back
  pub solved : (m : WidthMap) × SolvesBefore a m l × AllByRecursion (Holds m) front
  pub fails : (m : WidthMap) → SolvesBefore a m l → AllByRecursion (Holds m) front → ¬ Holds m failing × (width_by m (left_side failing) ≡ left) × (width_by m (right_side failing) ≡ right)

abbrev pub HasOneBit : Option Ty → Type 0
HasOneBit None = ⊥
HasOneBit (Some t) = t.width ≡ 1

abbrev pub IsNarrowPairStatement : Option PlainStatement → Type 0
IsNarrowPairStatement None = ⊥
IsNarrowPairStatement (Some s) = IsPairRow (row_of s) × HasOneBit (written_type s)

-- a pair of type i1: nothing is left for its number
abbrev pub IsNarrowPair : Item → FlawLocation → Type 0
IsNarrowPair a (Statement p) = IsNarrowPairStatement (slice_get a.statements p)
IsNarrowPair a l = ⊥

-- the two widths of a conflict: those of the first equation that fails, but of a narrow pair 0 and 1
abbrev pub AreConflicting : Item → FlawLocation → ℕ → ℕ → Type 0
AreConflicting a l left right = (IsNarrowPair a l × (left ≡ 0) × (right ≡ 1)) ⊎ (¬ IsNarrowPair a l × HasFailing a l left right)

-- the equations of the places before have a solution, and with those here there is none
pub record IsFirstConflict (a : Item) (l : FlawLocation) (left right : ℕ) : Type 0 where
  pub place : IsPlace a l
  pub solved : (m : WidthMap) × SolvesBefore a m l
  pub unsolved : (m : WidthMap) → SolvesBefore a m l → ¬ SolvesAt a m l
  pub widths : AreConflicting a l left right

-- two solutions for all places differ here, and no two differ before
pub record IsFirstUndetermined (a : Item) (l : FlawLocation) : Type 0 where
  pub place : IsPlace a l
  pub differ : (m : WidthMap) × (n : WidthMap) × HasWidths a m × HasWidths a n × ¬ AgreeAt m n l
  pub agree : (m n : WidthMap) → HasWidths a m → HasWidths a n → (k : FlawLocation) → IsPlace a k → IsBefore k l → AgreeAt m n k

abbrev pub IsShapeFlaw : Item → FlawLocation → WidthReason → Type 0
IsShapeFlaw a l r = IsFirstOfClass a (ShapedAt a) shape_reasons l r

-- the shape allows widths, there is one solution, and it is the map
pub record IsOnlySolution (a : Item) (m : WidthMap) : Type 0 where
  pub shape : HasShape a
  pub has : HasWidths a m
  pub only : (n : WidthMap) → HasWidths a n → n ≡ m

abbrev pub IsLimitFlaw : Item → FlawLocation → WidthReason → Type 0
IsLimitFlaw a l r = (m : WidthMap) × IsOnlySolution a m × IsFirstOfClass a (KeepsAt a m) limit_reasons l r

-- the reason at the location is the first flaw
abbrev pub IsFlawAt : Item → FlawLocation → WidthReason → Type 0
IsFlawAt a l TypedBlock = IsShapeFlaw a l TypedBlock
IsFlawAt a l FactOnComputed = IsShapeFlaw a l FactOnComputed
IsFlawAt a l BlockAsValue = IsShapeFlaw a l BlockAsValue
IsFlawAt a l PairAsValue = IsShapeFlaw a l PairAsValue
IsFlawAt a l NotAPair = IsShapeFlaw a l NotAPair
IsFlawAt a l BadIndex = IsShapeFlaw a l BadIndex
IsFlawAt a l (Conflict left right) = HasShape a × IsFirstConflict a l left right
IsFlawAt a l Undetermined = HasShape a × IsFirstUndetermined a l
IsFlawAt a l NotWider = IsLimitFlaw a l NotWider
IsFlawAt a l NotNarrower = IsLimitFlaw a l NotNarrower
IsFlawAt a l ByteSwap = IsLimitFlaw a l ByteSwap
IsFlawAt a l ConstantTooWide = IsLimitFlaw a l ConstantTooWide
IsFlawAt a l BitCount = IsLimitFlaw a l BitCount
IsFlawAt a l SignBits = IsLimitFlaw a l SignBits
IsFlawAt a l Range = IsLimitFlaw a l Range

abbrev pub IsFirstWidthFlaw : Item → WidthFlaw → Type 0
IsFirstWidthFlaw a flaw = IsFlawAt a flaw.location flaw.reason
