-- Definitions. That constants have the types of their widths.
use Rattle.std.specs.Prelude.{◌≡◌, ℕ, Option, Some}
use Rattle.souper_graph.specs.declared.ast.operands.«Type».{«Type» as Ty}
use Rattle.souper_graph.specs.declared.ast.operands.Operand.{Operand}
use Rattle.souper_graph.specs.declared.ast.operands.Operand.TheVariants.{Value, Constant}
use Rattle.souper_widths.specs.Maps.{WidthMap}
use Rattle.souper_widths.specs.Equations.{Width, width_by}

-- the type of n bits
abbrev pub type_with : ℕ → Option Ty
type_with n = Some (record { width = n })

-- a constant has the type of its width
abbrev pub HasOwnType : WidthMap → Operand × Width → Type 0
HasOwnType m (Value i, n) = Unit {0}
HasOwnType m (Constant c, n) = c.ty ≡ type_with (width_by m n)
