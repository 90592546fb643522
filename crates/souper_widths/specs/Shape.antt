-- Definitions. The shape of an item: what it must be before widths are asked for.
use Rattle.std.specs.Prelude.{List, [], ◌∷◌, Option, Some, None, IsNone, slice_get}
use Rattle.std.specs.List.{AllByRecursion}
use Rattle.souper_graph.specs.declared.ast.operands.«Type».{«Type» as Ty}
use Rattle.souper_graph.specs.declared.ast.operands.Operand.{Operand}
use Rattle.souper_graph.specs.declared.ast.operands.Operand.TheVariants.{Value, Constant}
use Rattle.souper_graph.specs.declared.ast.flaws.FlawLocation.{FlawLocation}
use Rattle.souper_graph.specs.declared.ast.flaws.FlawLocation.TheVariants.{Statement}
use Rattle.souper_graph.specs.Values.{PlainAttribute, has_external_uses, PlainRhs, var, block, phi, reserved_inst, reserved_const, instruction, PlainStatement, assigned, condition, block_condition, Item}
use Rattle.souper_graph.specs.WellFormed.{IsBlock}
use Rattle.souper_graph.specs.Flaws.{line_operands}
use Rattle.souper_widths.specs.declared.flaws.WidthReason.{WidthReason}
use Rattle.souper_widths.specs.declared.flaws.WidthReason.TheVariants.{TypedBlock, FactOnComputed, BlockAsValue, PairAsValue, NotAPair, BadIndex}
use Rattle.souper_widths.specs.declared.rows.Row.{Row}
use Rattle.souper_widths.specs.declared.rows.Row.TheVariants.{Block, Pair, Number, Overflow, BadPart, Condition}
use Rattle.souper_widths.specs.Table.{row_of, operands_in, written_type}
use Rattle.souper_widths.specs.Places.{IsPlace}

-- an input: any value, or a placeholder
abbrev pub IsInput : PlainRhs → Type 0
IsInput var = Unit {0}
IsInput (block b) = ⊥
IsInput (phi p) = ⊥
IsInput reserved_inst = Unit {0}
IsInput reserved_const = Unit {0}
IsInput (instruction i) = ⊥

-- every attribute but that the value has uses outside
abbrev pub IsFact : PlainAttribute → Type 0
IsFact has_external_uses = ⊥
IsFact a = Unit {0}

abbrev pub IsPairRow : Row → Type 0
IsPairRow Pair = Unit {0}
IsPairRow r = ⊥

-- the statement's value is a pair
abbrev pub IsPair : Option PlainStatement → Type 0
IsPair None = ⊥
IsPair (Some s) = IsPairRow (row_of s)

abbrev pub IsPairOperand : List PlainStatement → Operand → Type 0
IsPairOperand ss (Value i) = IsPair (slice_get ss i)
IsPairOperand ss (Constant c) = ⊥

abbrev pub IsBlockOperand : List PlainStatement → Operand → Type 0
IsBlockOperand ss (Value i) = IsBlock (slice_get ss i)
IsBlockOperand ss (Constant c) = ⊥

-- all but the first
abbrev pub further : List Operand → List Operand
further [] = []
further (x ∷ xs) = xs

-- the operands that may be no pair: all but the first of extractvalue
abbrev pub single_operands : Row → List Operand → List Operand
single_operands Number xs = further xs
single_operands Overflow xs = further xs
single_operands BadPart xs = further xs
single_operands r xs = xs

abbrev pub FirstIsPair : List PlainStatement → List Operand → Type 0
FirstIsPair ss [] = Unit {0}
FirstIsPair ss (x ∷ xs) = IsPairOperand ss x

-- the first operand of extractvalue is a pair
abbrev pub TakesPair : List PlainStatement → Row → List Operand → Type 0
TakesPair ss Number xs = FirstIsPair ss xs
TakesPair ss Overflow xs = FirstIsPair ss xs
TakesPair ss BadPart xs = FirstIsPair ss xs
TakesPair ss r xs = Unit {0}

-- its second is the index of a part
abbrev pub HasPart : Row → Type 0
HasPart BadPart = ⊥
HasPart r = Unit {0}

abbrev pub HasNoType : Row → Option Ty → Type 0
HasNoType Block t = IsNone t
HasNoType r t = Unit {0}

abbrev pub HasOwnFacts : PlainStatement → Type 0
HasOwnFacts (assigned a) = AllByRecursion (λ f. IsFact f → IsInput a.value) a.attributes
HasOwnFacts (condition c) = Unit {0}
HasOwnFacts (block_condition c) = Unit {0}

-- the operands of a row are free of the reason
abbrev pub ShapedOperands : List PlainStatement → Row → List Operand → WidthReason → Type 0
ShapedOperands ss row xs BlockAsValue = AllByRecursion (λ x. ¬ IsBlockOperand ss x) xs
ShapedOperands ss row xs PairAsValue = AllByRecursion (λ x. ¬ IsPairOperand ss x) (single_operands row xs)
ShapedOperands ss row xs NotAPair = TakesPair ss row xs
ShapedOperands ss row xs BadIndex = HasPart row
ShapedOperands ss row xs r = Unit {0}

-- the statement is
abbrev pub ShapedStatement : List PlainStatement → PlainStatement → WidthReason → Type 0
ShapedStatement ss s TypedBlock = HasNoType (row_of s) (written_type s)
ShapedStatement ss s FactOnComputed = HasOwnFacts s
ShapedStatement ss s r = ShapedOperands ss (row_of s) (operands_in s) r

-- a last line with these operands is, as a path condition
abbrev pub ShapedLine : List PlainStatement → List Operand → WidthReason → Type 0
ShapedLine ss xs r = ShapedOperands ss Condition xs r

abbrev pub ShapedOptional : List PlainStatement → Option PlainStatement → WidthReason → Type 0
ShapedOptional ss None r = Unit {0}
ShapedOptional ss (Some s) r = ShapedStatement ss s r

-- the location is
abbrev pub ShapedAt : Item → FlawLocation → WidthReason → Type 0
ShapedAt a (Statement p) r = ShapedOptional a.statements (slice_get a.statements p) r
ShapedAt a l r = ShapedLine a.statements (line_operands l a.ending) r

-- the reasons in the order in which they are looked for at one place
abbrev pub operand_reasons : List WidthReason
operand_reasons = BlockAsValue ∷ PairAsValue ∷ NotAPair ∷ BadIndex ∷ []

abbrev pub shape_reasons : List WidthReason
shape_reasons = TypedBlock ∷ FactOnComputed ∷ operand_reasons

-- no place has one of them
abbrev pub HasShape : Item → Type 0
HasShape a = (l : FlawLocation) → IsPlace a l → AllByRecursion (ShapedAt a l) shape_reasons
