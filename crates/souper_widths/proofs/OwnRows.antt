-- The rows that statements have, with their operands.
use Rattle.std.proofs.Common.{◌≡◌, ◌≢◌, ℕ, zero, suc, ◌+◌, List, [], ◌∷◌, Option, Some, None, refl, subst, arith}
use Rattle.std.specs.Prelude.{ℤ, pos, negsuc}
use Rattle.souper_graph.specs.declared.ast.operands.Operand.{Operand}
use Rattle.souper_graph.specs.declared.ast.operands.Operand.TheVariants.{Value, Constant}
use Rattle.souper_graph.specs.declared.ast.instructions.Instruction.{Instruction}
use Rattle.souper_graph.specs.declared.ast.instructions.Instruction.TheVariants.{Add, AddNsw, AddNuw, AddNw, Sub, SubNsw, SubNuw, SubNw, Mul, MulNsw, MulNuw, MulNw, Udiv, Sdiv, UdivExact, SdivExact, Urem, Srem, And, Or, Xor, Shl, ShlNsw, ShlNuw, ShlNw, Lshr, LshrExact, Ashr, AshrExact, Select as select_word, Zext, Sext, Trunc, Eq, Ne, Ult, Slt, Ule, Sle, Ctpop, Bswap, BitReverse, Cttz, Ctlz, Fshl, Fshr, SaddWithOverflow, UaddWithOverflow, SsubWithOverflow, UsubWithOverflow, SmulWithOverflow, UmulWithOverflow, SaddSat, UaddSat, SsubSat, UsubSat, ExtractValue, Hole, Freeze}
use Rattle.souper_graph.specs.Instructions.{operands_of}
use Rattle.souper_graph.specs.Values.{PlainRhs, var, block, phi, reserved_inst, reserved_const, instruction, PlainStatement, assigned, condition, block_condition}
use Rattle.souper_graph.specs.WellFormed.{IsAssigned, IsBlockRhs, IsBlock}
use Rattle.souper_widths.specs.declared.rows.Row.{Row}
use Rattle.souper_widths.specs.declared.rows.Row.TheVariants.{Input, Block, Phi, Same, Bit, Resized, Select, Pair, Number as number_row, Overflow, BadPart, Condition}
use Rattle.souper_widths.specs.declared.flaws.WidthReason.TheVariants.{BadIndex}
use Rattle.souper_widths.specs.Table.{part_of_number, instruction_row, rhs_row, row_of, operands_of_rhs, operands_in}
use Rattle.souper_widths.specs.Shape.{IsPairRow, IsPair, HasPart, ShapedOptional}
use Rattle.souper_widths.specs.Ties.{result_more, shown_result}
use Rattle.souper_widths.specs.Nodes.{optional_row, IsOwnRow, HasRowOperands}

own-part : (z : ℤ) (xs : List Operand) → IsOwnRow (part_of_number z) xs
own-part (pos zero) xs = tt
own-part (pos (suc zero)) xs = tt
own-part (pos (suc (suc n))) xs = tt
own-part (negsuc n) xs = tt

own-row : (i : Instruction) → IsOwnRow (instruction_row i) (operands_of i)
own-row (Add a b) = tt
own-row (AddNsw a b) = tt
own-row (AddNuw a b) = tt
own-row (AddNw a b) = tt
own-row (Sub a b) = tt
own-row (SubNsw a b) = tt
own-row (SubNuw a b) = tt
own-row (SubNw a b) = tt
own-row (Mul a b) = tt
own-row (MulNsw a b) = tt
own-row (MulNuw a b) = tt
own-row (MulNw a b) = tt
own-row (Udiv a b) = tt
own-row (Sdiv a b) = tt
own-row (UdivExact a b) = tt
own-row (SdivExact a b) = tt
own-row (Urem a b) = tt
own-row (Srem a b) = tt
own-row (And a b) = tt
own-row (Or a b) = tt
own-row (Xor a b) = tt
own-row (Shl a b) = tt
own-row (ShlNsw a b) = tt
own-row (ShlNuw a b) = tt
own-row (ShlNw a b) = tt
own-row (Lshr a b) = tt
own-row (LshrExact a b) = tt
own-row (Ashr a b) = tt
own-row (AshrExact a b) = tt
own-row (select_word a b c) = tt
own-row (Zext a) = tt
own-row (Sext a) = tt
own-row (Trunc a) = tt
own-row (Eq a b) = tt
own-row (Ne a b) = tt
own-row (Ult a b) = tt
own-row (Slt a b) = tt
own-row (Ule a b) = tt
own-row (Sle a b) = tt
own-row (Ctpop a) = tt
own-row (Bswap a) = tt
own-row (BitReverse a) = tt
own-row (Cttz a) = tt
own-row (Ctlz a) = tt
own-row (Fshl a b c) = tt
own-row (Fshr a b c) = tt
own-row (SaddWithOverflow a b) = λ e. absurd (cc)
own-row (UaddWithOverflow a b) = λ e. absurd (cc)
own-row (SsubWithOverflow a b) = λ e. absurd (cc)
own-row (UsubWithOverflow a b) = λ e. absurd (cc)
own-row (SmulWithOverflow a b) = λ e. absurd (cc)
own-row (UmulWithOverflow a b) = λ e. absurd (cc)
own-row (SaddSat a b) = tt
own-row (UaddSat a b) = tt
own-row (SsubSat a b) = tt
own-row (UsubSat a b) = tt
own-row (ExtractValue a (Value i)) = tt
own-row (ExtractValue a (Constant c)) = own-part c.value (a ∷ Constant c ∷ [])
own-row Hole = refl
own-row (Freeze a) = tt

own-operands : (r : Row) (xs : List Operand) → IsOwnRow r xs → HasRowOperands r xs
own-operands Input xs h = h
own-operands Block xs h = absurd h
own-operands Phi xs h = tt
own-operands Same xs h = tt
own-operands Bit xs h = tt
own-operands Resized xs h = tt
own-operands Select xs h = tt
own-operands Pair xs h = h
own-operands number_row xs h = tt
own-operands Overflow xs h = tt
own-operands BadPart xs h = tt
own-operands Condition xs h = tt

rhs-operands : (x : PlainRhs) → HasRowOperands (rhs_row x) (operands_of_rhs x)
rhs-operands var = refl
rhs-operands (block b) = refl
rhs-operands (phi p) = tt
rhs-operands reserved_inst = refl
rhs-operands reserved_const = refl
rhs-operands (instruction i) = own-operands (instruction_row i) (operands_of i) (own-row i)

pub statement-row_operands : (s : PlainStatement) → HasRowOperands (row_of s) (operands_in s)
statement-row_operands (assigned a) = rhs-operands a.value
statement-row_operands (condition c) = tt
statement-row_operands (block_condition c) = tt

pub rhs-no_condition : (x : PlainRhs) → rhs_row x ≢ Condition
rhs-no_condition var = λ e. absurd (cc)
rhs-no_condition (block b) = λ e. absurd (cc)
rhs-no_condition (phi p) = λ e. absurd (cc)
rhs-no_condition reserved_inst = λ e. absurd (cc)
rhs-no_condition reserved_const = λ e. absurd (cc)
rhs-no_condition (instruction i) = λ e. subst (λ (z : Row). IsOwnRow z (operands_of i)) e (own-row i)

-- a pair's result is one bit wider than its node, any other is not
more-one : (r : Row) → IsPairRow r → result_more r ≡ 1
more-one Input h = absurd h
more-one Block h = absurd h
more-one Phi h = absurd h
more-one Same h = absurd h
more-one Bit h = absurd h
more-one Resized h = absurd h
more-one Select h = absurd h
more-one Pair h = refl
more-one number_row h = absurd h
more-one Overflow h = absurd h
more-one BadPart h = absurd h
more-one Condition h = absurd h

more-none : (r : Row) → ¬ IsPairRow r → result_more r ≡ 0
more-none Input h = refl
more-none Block h = refl
more-none Phi h = refl
more-none Same h = refl
more-none Bit h = refl
more-none Resized h = refl
more-none Select h = refl
more-none Pair h = absurd (h tt)
more-none number_row h = refl
more-none Overflow h = refl
more-none BadPart h = refl
more-none Condition h = refl

pub pair-more : (o : Option PlainStatement) → IsPair o → result_more (optional_row o) ≡ 1
pair-more None h = absurd h
pair-more (Some s) h = more-one (row_of s) h

pub single-more : (o : Option PlainStatement) → ¬ IsPair o → result_more (optional_row o) ≡ 0
single-more None h = refl
single-more (Some s) h = more-none (row_of s) h

pair-row : (r : Row) (y : ℕ) → IsPairRow r → shown_result r y ≡ y + 1
pair-row Input y h = absurd h
pair-row Block y h = absurd h
pair-row Phi y h = absurd h
pair-row Same y h = absurd h
pair-row Bit y h = absurd h
pair-row Resized y h = absurd h
pair-row Select y h = absurd h
pair-row Pair y h = refl
pair-row number_row y h = absurd h
pair-row Overflow y h = absurd h
pair-row BadPart y h = absurd h
pair-row Condition y h = absurd h

pub pair-shown : (o : Option PlainStatement) (y : ℕ) → IsPair o → shown_result (optional_row o) y ≡ y + 1
pair-shown None y h = absurd h
pair-shown (Some s) y h = pair-row (row_of s) y h

own-shown : (r : Row) (xs : List Operand) (y : ℕ) → IsOwnRow r xs → ¬ IsPairRow r → HasPart r → shown_result r y ≡ y + 0
own-shown Input xs y o n h = omega arith
own-shown Block xs y o n h = absurd o
own-shown Phi xs y o n h = absurd o
own-shown Same xs y o n h = omega arith
own-shown Bit xs y o n h = omega arith
own-shown Resized xs y o n h = omega arith
own-shown Select xs y o n h = omega arith
own-shown Pair xs y o n h = absurd (n tt)
own-shown number_row xs y o n h = omega arith
own-shown Overflow xs y o n h = omega arith
own-shown BadPart xs y o n h = absurd h
own-shown Condition xs y o n h = absurd o

rhs-shown : (x : PlainRhs) (y : ℕ) → ¬ IsBlockRhs x → ¬ IsPairRow (rhs_row x) → HasPart (rhs_row x) → shown_result (rhs_row x) y ≡ y + 0
rhs-shown var y b n h = omega arith
rhs-shown (block x) y b n h = absurd (b tt)
rhs-shown (phi p) y b n h = omega arith
rhs-shown reserved_inst y b n h = omega arith
rhs-shown reserved_const y b n h = omega arith
rhs-shown (instruction i) y b n h = own-shown (instruction_row i) (operands_of i) y (own-row i) n h

-- the result of an assignment that is no block, no pair and no bad part is as wide as its node
pub single-shown : (ss : List PlainStatement) (o : Option PlainStatement) (y : ℕ) → IsAssigned o → ¬ IsBlock o → ¬ IsPair o → ShapedOptional ss o BadIndex → shown_result (optional_row o) y ≡ y + 0
single-shown ss None y a b n h = absurd a
single-shown ss (Some (assigned x)) y a b n h = rhs-shown x.value y b n h
single-shown ss (Some (condition c)) y a b n h = absurd a
single-shown ss (Some (block_condition c)) y a b n h = absurd a
