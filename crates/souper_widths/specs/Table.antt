-- Definitions. The table of widths: the row of each word, and the equations of each row.
use Rattle.std.specs.Prelude.{ℕ, zero, suc, ℤ, pos, negsuc, List, [], ◌∷◌, ◌++◌, map, flat_map, Option, Some, None}
use Rattle.souper_graph.specs.declared.ast.operands.«Type».{«Type» as Ty}
use Rattle.souper_graph.specs.declared.ast.operands.Operand.{Operand}
use Rattle.souper_graph.specs.declared.ast.operands.Operand.TheVariants.{Value, Constant}
use Rattle.souper_graph.specs.declared.ast.instructions.Instruction.{Instruction}
use Rattle.souper_graph.specs.declared.ast.instructions.Instruction.TheVariants.{Add, AddNsw, AddNuw, AddNw, Sub, SubNsw, SubNuw, SubNw, Mul, MulNsw, MulNuw, MulNw, Udiv, Sdiv, UdivExact, SdivExact, Urem, Srem, And, Or, Xor, Shl, ShlNsw, ShlNuw, ShlNw, Lshr, LshrExact, Ashr, AshrExact, Select as select_word, Zext, Sext, Trunc, Eq, Ne, Ult, Slt, Ule, Sle, Ctpop, Bswap, BitReverse, Cttz, Ctlz, Fshl, Fshr, SaddWithOverflow, UaddWithOverflow, SsubWithOverflow, UsubWithOverflow, SmulWithOverflow, UmulWithOverflow, SaddSat, UaddSat, SsubSat, UsubSat, ExtractValue, Hole, Freeze}
use Rattle.souper_graph.specs.Instructions.{operands_of}
use Rattle.souper_graph.specs.Values.{PlainRhs, var, block, phi, reserved_inst, reserved_const, instruction, PlainStatement, assigned, condition, block_condition}
use Rattle.souper_widths.specs.declared.rows.Row.{Row}
use Rattle.souper_widths.specs.declared.rows.Row.TheVariants.{Input, Block, Phi, Same, Bit, Resized, Select, Pair, Number, Overflow, BadPart, Condition}
use Rattle.souper_widths.specs.Equations.{Width, result_of, operands_at, bits, one_more, Equation, equal, at_least_one, type_equations, operand_equations}

-- the part of a pair at an index
abbrev pub part_of_number : ℤ → Row
part_of_number (pos zero) = Number
part_of_number (pos (suc zero)) = Overflow
part_of_number (pos (suc (suc n))) = BadPart
part_of_number (negsuc n) = BadPart

-- the index is a constant, of any type or none
abbrev pub part_at : Operand → Row
part_at (Value i) = BadPart
part_at (Constant c) = part_of_number c.value

-- the row of each word
abbrev pub instruction_row : Instruction → Row
instruction_row (Add a b) = Same
instruction_row (AddNsw a b) = Same
instruction_row (AddNuw a b) = Same
instruction_row (AddNw a b) = Same
instruction_row (Sub a b) = Same
instruction_row (SubNsw a b) = Same
instruction_row (SubNuw a b) = Same
instruction_row (SubNw a b) = Same
instruction_row (Mul a b) = Same
instruction_row (MulNsw a b) = Same
instruction_row (MulNuw a b) = Same
instruction_row (MulNw a b) = Same
instruction_row (Udiv a b) = Same
instruction_row (Sdiv a b) = Same
instruction_row (UdivExact a b) = Same
instruction_row (SdivExact a b) = Same
instruction_row (Urem a b) = Same
instruction_row (Srem a b) = Same
instruction_row (And a b) = Same
instruction_row (Or a b) = Same
instruction_row (Xor a b) = Same
instruction_row (Shl a b) = Same
instruction_row (ShlNsw a b) = Same
instruction_row (ShlNuw a b) = Same
instruction_row (ShlNw a b) = Same
instruction_row (Lshr a b) = Same
instruction_row (LshrExact a b) = Same
instruction_row (Ashr a b) = Same
instruction_row (AshrExact a b) = Same
instruction_row (select_word a b c) = Select
instruction_row (Zext a) = Resized
instruction_row (Sext a) = Resized
instruction_row (Trunc a) = Resized
instruction_row (Eq a b) = Bit
instruction_row (Ne a b) = Bit
instruction_row (Ult a b) = Bit
instruction_row (Slt a b) = Bit
instruction_row (Ule a b) = Bit
instruction_row (Sle a b) = Bit
instruction_row (Ctpop a) = Same
instruction_row (Bswap a) = Same
instruction_row (BitReverse a) = Same
instruction_row (Cttz a) = Same
instruction_row (Ctlz a) = Same
instruction_row (Fshl a b c) = Same
instruction_row (Fshr a b c) = Same
instruction_row (SaddWithOverflow a b) = Pair
instruction_row (UaddWithOverflow a b) = Pair
instruction_row (SsubWithOverflow a b) = Pair
instruction_row (UsubWithOverflow a b) = Pair
instruction_row (SmulWithOverflow a b) = Pair
instruction_row (UmulWithOverflow a b) = Pair
instruction_row (SaddSat a b) = Same
instruction_row (UaddSat a b) = Same
instruction_row (SsubSat a b) = Same
instruction_row (UsubSat a b) = Same
instruction_row (ExtractValue a b) = part_at b
instruction_row Hole = Input
instruction_row (Freeze a) = Same

abbrev pub rhs_row : PlainRhs → Row
rhs_row var = Input
rhs_row (block b) = Block
rhs_row (phi x) = Phi
rhs_row reserved_inst = Input
rhs_row reserved_const = Input
rhs_row (instruction i) = instruction_row i

abbrev pub row_of : PlainStatement → Row
row_of (assigned a) = rhs_row a.value
row_of (condition c) = Condition
row_of (block_condition c) = Condition

abbrev pub operands_of_rhs : PlainRhs → List Operand
operands_of_rhs var = []
operands_of_rhs (block b) = []
operands_of_rhs (phi x) = x.values
operands_of_rhs reserved_inst = []
operands_of_rhs reserved_const = []
operands_of_rhs (instruction i) = operands_of i

abbrev pub operands_in : PlainStatement → List Operand
operands_in (assigned a) = operands_of_rhs a.value
operands_in (condition c) = c.x ∷ c.y ∷ []
operands_in (block_condition c) = c.x ∷ c.y ∷ []

-- the equations of a row at position p, but for what its operands have
abbrev pub row_equations : ℕ → Row → List Equation
row_equations p Input = at_least_one (result_of p) ∷ equal (operands_at p) (bits 0) ∷ []
row_equations p Block = equal (result_of p) (bits 0) ∷ equal (operands_at p) (bits 0) ∷ []
row_equations p Phi = equal (result_of p) (operands_at p) ∷ at_least_one (result_of p) ∷ []
row_equations p Same = equal (result_of p) (operands_at p) ∷ []
row_equations p Bit = equal (result_of p) (bits 1) ∷ []
row_equations p Resized = at_least_one (result_of p) ∷ []
row_equations p Select = equal (result_of p) (operands_at p) ∷ []
row_equations p Pair = equal (result_of p) (one_more (operands_at p)) ∷ []
row_equations p Number = equal (one_more (result_of p)) (operands_at p) ∷ at_least_one (result_of p) ∷ []
row_equations p Overflow = equal (result_of p) (bits 1) ∷ []
row_equations p BadPart = equal (result_of p) (bits 0) ∷ equal (operands_at p) (bits 0) ∷ []
row_equations p Condition = equal (result_of p) (bits 0) ∷ []

-- the operands, each with this width
abbrev pub each_with : Width → List Operand → List (Operand × Width)
each_with n xs = map (λ x. (x, n)) xs

-- The operands of a row, each with its width. The condition of a select has one bit; the index of a part has no width.
abbrev pub row_operands : ℕ → Row → List Operand → List (Operand × Width)
row_operands p Select (c ∷ xs) = (c, bits 1) ∷ each_with (operands_at p) xs
row_operands p Number (a ∷ xs) = (a, operands_at p) ∷ []
row_operands p Overflow (a ∷ xs) = (a, operands_at p) ∷ []
row_operands p BadPart xs = []
row_operands p r xs = each_with (operands_at p) xs

abbrev pub written_type : PlainStatement → Option Ty
written_type (assigned a) = a.ty
written_type (condition c) = None
written_type (block_condition c) = None

abbrev pub statement_operands : ℕ → PlainStatement → List (Operand × Width)
statement_operands p s = row_operands p (row_of s) (operands_in s)

-- the written type, then the row of the table from left to right
abbrev pub statement_equations : ℕ → Option PlainStatement → List Equation
statement_equations p None = []
statement_equations p (Some s) = type_equations (written_type s) (result_of p) ++ (row_equations p (row_of s) ++ flat_map operand_equations (statement_operands p s))
