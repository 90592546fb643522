-- Definitions. Equations between widths.
use Rattle.std.specs.Prelude.{◌≡◌, ℕ, ◌+◌, ◌≤◌, List, [], ◌∷◌, Option, Some, None}
use Rattle.souper_graph.specs.declared.ast.operands.«Type».{«Type» as Ty}
use Rattle.souper_graph.specs.declared.ast.operands.Operand.{Operand}
use Rattle.souper_graph.specs.declared.ast.operands.Operand.TheVariants.{Value, Constant}
use Rattle.souper_widths.specs.Maps.{WidthMap, result_width, operand_width}

-- a width: of the result or of the operands of the statement at a position, of the last lines, a number, one bit more
pub data Width : Type 0 where
  result_of : ℕ → Width
  operands_at : ℕ → Width
  of_root : Width
  bits : ℕ → Width
  one_more : Width → Width

-- the width by a map
abbrev pub width_by : WidthMap → Width → ℕ
width_by m (result_of p) = result_width m p
width_by m (operands_at p) = operand_width m p
width_by m of_root = m.root
width_by m (bits n) = n
width_by m (one_more x) = width_by m x + 1

-- two widths are equal, or a width is 1 at least
pub data Equation : Type 0 where
  equal : Width → Width → Equation
  at_least_one : Width → Equation

abbrev pub Holds : WidthMap → Equation → Type 0
Holds m (equal x y) = width_by m x ≡ width_by m y
Holds m (at_least_one x) = 1 ≤ width_by m x

abbrev pub left_side : Equation → Width
left_side (equal x y) = x
left_side (at_least_one x) = x

abbrev pub right_side : Equation → Width
right_side (equal x y) = y
right_side (at_least_one x) = bits 1

-- a type that is written is the width
abbrev pub type_equations : Option Ty → Width → List Equation
type_equations None x = []
type_equations (Some t) x = equal x (bits t.width) ∷ []

-- a constant's type, if it has one, is the width
abbrev pub constant_equations : Option Ty → Width → List Equation
constant_equations None x = []
constant_equations (Some t) x = equal (bits t.width) x ∷ []

-- the operand has the width, and that is 1 at least
abbrev pub operand_equations : Operand × Width → List Equation
operand_equations (Value i, n) = at_least_one n ∷ equal (result_of i) n ∷ []
operand_equations (Constant c, n) = at_least_one n ∷ constant_equations c.ty n
