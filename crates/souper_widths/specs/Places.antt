-- Definitions. The places of an item: the needed statements by position, then the last lines.
use Rattle.std.specs.Prelude.{◌≢◌, ℕ, List, [], flat_map, Option, Some, None, slice_get}
use Rattle.std.specs.List.{AllByRecursion}
use Rattle.souper_graph.specs.declared.ast.operands.Operand.{Operand}
use Rattle.souper_graph.specs.declared.ast.flaws.FlawLocation.{FlawLocation}
use Rattle.souper_graph.specs.declared.ast.flaws.FlawLocation.TheVariants.{Statement}
use Rattle.souper_graph.specs.Values.{PlainStatement, Item}
use Rattle.souper_graph.specs.Uses.{NeededIn}
use Rattle.souper_graph.specs.Flaws.{IsBefore, line_operands}
use Rattle.souper_widths.specs.Maps.{WidthMap}
use Rattle.souper_widths.specs.Equations.{Width, of_root, Equation, Holds, operand_equations}
use Rattle.souper_widths.specs.Table.{each_with, statement_operands, statement_equations}

-- a last line is a place if the item has it
abbrev pub IsPlace : Item → FlawLocation → Type 0
IsPlace a (Statement p) = NeededIn a p
IsPlace a l = line_operands l a.ending ≢ []

abbrev pub optional_operands : ℕ → Option PlainStatement → List (Operand × Width)
optional_operands p None = []
optional_operands p (Some s) = statement_operands p s

-- the operands at a location, each with its width
abbrev pub operands_with_widths : Item → FlawLocation → List (Operand × Width)
operands_with_widths a (Statement p) = optional_operands p (slice_get a.statements p)
operands_with_widths a l = each_with of_root (line_operands l a.ending)

-- the equations at a location, in order
abbrev pub equations_at : Item → FlawLocation → List Equation
equations_at a (Statement p) = statement_equations p (slice_get a.statements p)
equations_at a l = flat_map operand_equations (operands_with_widths a l)

-- the map solves the equations at the location
abbrev pub SolvesAt : Item → WidthMap → FlawLocation → Type 0
SolvesAt a m l = AllByRecursion (Holds m) (equations_at a l)

-- it solves those of all places before the location
abbrev pub SolvesBefore : Item → WidthMap → FlawLocation → Type 0
SolvesBefore a m l = (k : FlawLocation) → IsPlace a k → IsBefore k l → SolvesAt a m k
