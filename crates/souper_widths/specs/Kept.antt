-- Definitions. The limits of one place by numbers, as the code tests them.
use Rattle.std.specs.Prelude.{ℕ, List, [], ◌∷◌, Option, Some, None}
use Rattle.std.specs.List.{AllByRecursion}
use Rattle.souper_graph.specs.declared.ast.operands.Operand.{Operand}
use Rattle.souper_graph.specs.Values.{PlainRootAttribute, PlainStatement}
use Rattle.souper_widths.specs.declared.flaws.WidthReason.{WidthReason}
use Rattle.souper_widths.specs.declared.flaws.WidthReason.TheVariants.{ConstantTooWide}
use Rattle.souper_widths.specs.declared.rows.Row.{Row}
use Rattle.souper_widths.specs.declared.rows.Row.TheVariants.{Select, Number, Overflow, BadPart}
use Rattle.souper_widths.specs.Table.{row_of, operands_in}
use Rattle.souper_widths.specs.Limits.{FitsBits, WithinStatement, WithinLine}

abbrev pub FitsFirst : ℕ → List Operand → Type 0
FitsFirst v [] = Unit {0}
FitsFirst v (x ∷ xs) = FitsBits v x

abbrev pub FitSelect : ℕ → List Operand → Type 0
FitSelect v [] = Unit {0}
FitSelect v (c ∷ xs) = FitsBits 1 c × AllByRecursion (FitsBits v) xs

-- the constants among the operands of a row fit v bits, the condition of a select one; an index is left out
abbrev pub FitRow : ℕ → Row → List Operand → Type 0
FitRow v Select xs = FitSelect v xs
FitRow v Number xs = FitsFirst v xs
FitRow v Overflow xs = FitsFirst v xs
FitRow v BadPart xs = Unit {0}
FitRow v r xs = AllByRecursion (FitsBits v) xs

-- a statement with a result of w bits and operands of v is free of the reason
abbrev pub KeptStatement : ℕ → ℕ → PlainStatement → WidthReason → Type 0
KeptStatement w v s ConstantTooWide = FitRow v (row_of s) (operands_in s)
KeptStatement w v s r = WithinStatement w v (Some s) r

abbrev pub KeptOptional : ℕ → ℕ → Option PlainStatement → WidthReason → Type 0
KeptOptional w v None r = Unit {0}
KeptOptional w v (Some s) r = KeptStatement w v s r

-- a last line of n bits is
abbrev pub KeptLine : ℕ → List Operand → List PlainRootAttribute → WidthReason → Type 0
KeptLine n xs attributes ConstantTooWide = AllByRecursion (FitsBits n) xs
KeptLine n xs attributes r = WithinLine n attributes r
