-- Widths of nodes that solve the ties of a statement give a map that solves its equations.
use Rattle.std.proofs.Common.{◌≡◌, ℕ, ◌+◌, ◌*◌, ◌<◌, List, [], ◌∷◌, Some, None}
use Rattle.std.specs.Prelude.{Option}
use Rattle.std.specs.List.{AllByRecursion}
use Rattle.souper_graph.specs.declared.ast.operands.«Type».{«Type» as Ty}
use Rattle.souper_graph.specs.declared.ast.operands.Operand.{Operand}
use Rattle.souper_widths.specs.declared.rows.Row.{Row}
use Rattle.souper_widths.specs.declared.rows.Row.TheVariants.{Input, Block, Number as number_row, Overflow, BadPart}
use Rattle.souper_widths.specs.Maps.{WidthMap, result_width}
use Rattle.souper_widths.specs.Ties.{result_more}
use Rattle.souper_widths.proofs.Bridges.{OperandShown}

-- the operands of a row: none, a pair of extractvalue, or others
abbrev pub RowShown : WidthMap → (ℕ → ℕ) → Row → List Operand → Type 0
RowShown m u Input xs = xs ≡ []
RowShown m u Block xs = xs ≡ []
RowShown m u BadPart xs = Unit {0}
RowShown m u number_row [] = Unit {0}
RowShown m u number_row (x ∷ xs) = OperandShown m u 1 x
RowShown m u Overflow [] = Unit {0}
RowShown m u Overflow (x ∷ xs) = OperandShown m u 1 x
RowShown m u r xs = AllByRecursion (OperandShown m u 0) xs

-- a type that is written: the result is shown, and more than what it is wider by
abbrev pub TypeShown : WidthMap → (ℕ → ℕ) → ℕ → Row → Option Ty → Type 0
TypeShown m u p r None = Unit {0}
TypeShown m u p r (Some t) = (result_width m p ≡ u (2 * p) + result_more r) × (result_more r < t.width)
