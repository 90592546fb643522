-- Definitions. Widths that one pass over the statements finds: a written type or an earlier operand forces each.
use Rattle.std.specs.Prelude.{◌≡◌, ◌≢◌, ℕ, ◌<◌, ◌⊎◌, List, [], ◌∷◌, ◌++◌, length, flat_map, slice_index, Option, Some, None}
use Rattle.std.specs.List.{AllByRecursion}
use Rattle.souper_graph.specs.declared.ast.operands.«Type».{«Type» as Ty}
use Rattle.souper_graph.specs.declared.ast.operands.Operand.{Operand}
use Rattle.souper_graph.specs.declared.ast.operands.Operand.TheVariants.{Value, Constant}
use Rattle.souper_graph.specs.Values.{PlainStatement, Ending}
use Rattle.souper_graph.specs.PartsView.{root_operands}
use Rattle.souper_widths.specs.declared.rows.Row.{Row}
use Rattle.souper_widths.specs.declared.rows.Row.TheVariants.{Block, Pair, Number, Overflow, BadPart}
use Rattle.souper_widths.specs.Maps.{WidthMap, result_width, operand_width}
use Rattle.souper_widths.specs.Equations.{result_of, Equation, Holds, type_equations, operand_equations}
use Rattle.souper_widths.specs.Table.{row_of, operands_in, row_equations, row_operands, written_type}
use Rattle.souper_widths.specs.Shape.{HasNoType, HasOwnFacts}
use Rattle.souper_widths.specs.Limits.{FitsBits, limit_reasons}
use Rattle.souper_widths.specs.Kept.{FitRow, KeptStatement}
use Rattle.souper_widths.specs.Lines.{LinesKept}

-- the map has these results at the first positions
abbrev pub AgreesBefore : WidthMap → List ℕ → Type 0
AgreesBefore m rs = (i : ℕ) → i < length rs → result_width m i ≡ slice_index rs i

-- a written type, if there is one, has v bits
abbrev pub IsTypeOf : ℕ → Option Ty → Type 0
IsTypeOf v None = Unit {0}
IsTypeOf v (Some t) = t.width ≡ v

abbrev pub HasType : Option Ty → Type 0
HasType None = ⊥
HasType (Some t) = Unit {0}

-- an operand's own width, if it has one, is v: an earlier result's, or a constant's type
abbrev pub HasOwnWidth : List ℕ → ℕ → Operand → Type 0
HasOwnWidth rs v (Value i) = (i < length rs) × (slice_index rs i ≡ v)
HasOwnWidth rs v (Constant c) = IsTypeOf v c.ty

-- the operand has a width of its own
abbrev pub IsForcing : Operand → Type 0
IsForcing (Value i) = Unit {0}
IsForcing (Constant c) = HasType c.ty

-- one of the operands has
abbrev pub AnyForcing : List Operand → Type 0
AnyForcing [] = ⊥
AnyForcing (x ∷ xs) = IsForcing x ⊎ AnyForcing xs

-- The operands that have a width of their own have v bits. If v is 0, none has one.
abbrev pub ForceWidth : List ℕ → ℕ → List Operand → Type 0
ForceWidth rs v xs = ((v ≢ 0) × AllByRecursion (HasOwnWidth rs v) xs × AnyForcing xs) ⊎ ((v ≡ 0) × AllByRecursion (λ x. ¬ IsForcing x) xs)

-- operands have v bits, one at least by a width of its own, and the constants fit
abbrev pub IsForcedBy : List ℕ → ℕ → List Operand → Type 0
IsForcedBy rs v xs = (v ≢ 0) × ForceWidth rs v xs × AllByRecursion (FitsBits v) xs

-- the width of a type, or 0 for none
abbrev pub IsWritten : ℕ → Option Ty → Type 0
IsWritten v None = v ≡ 0
IsWritten v (Some t) = (v ≢ 0) × (t.width ≡ v)

-- each of the two widths is c, but for one that is 0
abbrev pub AreJoined : ℕ → ℕ → ℕ → Type 0
AreJoined a b c = ((a ≢ 0) → a ≡ c) × ((b ≢ 0) → b ≡ c) × (a ≡ 0 → b ≡ 0 → c ≡ 0)

-- a value has an earlier result, which is not 0
abbrev pub HasResult : List ℕ → Operand → Type 0
HasResult rs (Value i) = (i < length rs) × (slice_index rs i ≢ 0)
HasResult rs (Constant c) = Unit {0}

-- the rows without pairs
abbrev pub IsSingleRow : Row → Type 0
IsSingleRow Pair = ⊥
IsSingleRow Number = ⊥
IsSingleRow Overflow = ⊥
IsSingleRow BadPart = ⊥
IsSingleRow r = Unit {0}

-- the equations at position p of a type, a row and operands
abbrev pub equations_of_row : ℕ → Option Ty → Row → List Operand → List Equation
equations_of_row p t r xs = type_equations t (result_of p) ++ (row_equations p r ++ flat_map operand_equations (row_operands p r xs))

-- After these results, a type, a row and operands force a result of w bits and operands of v.
pub record ForcedRow (rs : List ℕ) (t : Option Ty) (r : Row) (xs : List Operand) (w v : ℕ) : Type 0 where
  pub solves : (m : WidthMap) (p : ℕ) → AgreesBefore m rs → result_width m p ≡ w → operand_width m p ≡ v → AllByRecursion (Holds m) (equations_of_row p t r xs)
  pub only : (m : WidthMap) (p : ℕ) → AgreesBefore m rs → AllByRecursion (Holds m) (equations_of_row p t r xs) → (result_width m p ≡ w) × (operand_width m p ≡ v)
  pub single : IsSingleRow r
  pub untyped : HasNoType r t
  pub values : AllByRecursion (HasResult rs) xs
  pub shown : w ≢ 0 → r ≢ Block
  pub fits : FitRow v r xs

-- After these results, a statement forces a result of w bits and operands of v. It has its shape and keeps its limits.
pub record Forced (rs : List ℕ) (s : PlainStatement) (w v : ℕ) : Type 0 where
  pub row : ForcedRow rs (written_type s) (row_of s) (operands_in s) w v
  pub facts : HasOwnFacts s
  pub limits : AllByRecursion (KeptStatement w v s) limit_reasons

abbrev pub ForcedOptional : List ℕ → Option PlainStatement → ℕ → ℕ → Type 0
ForcedOptional rs None w v = ⊥
ForcedOptional rs (Some s) w v = Forced rs s w v

-- after these results, the last lines force a width of n bits, and keep their limits
pub record ForcedLines (rs : List ℕ) (e : Ending) (n : ℕ) : Type 0 where
  pub above : n ≢ 0
  pub own : ForceWidth rs n (root_operands e)
  pub limits : LinesKept n e
