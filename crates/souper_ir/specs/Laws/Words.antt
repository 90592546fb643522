-- Lemmas. The words of the instructions: each names the opcode of its instruction, and no other.
use Rattle.std.proofs.Common.{◌≡◌, ℕ, Bool, true, false, List, [], ◌∷◌, length, take, Option, Some, None, refl, subst}
use Rattle.std.specs.Prelude.{bytes_eq, nat_eq, if◌then◌else◌}
use Rattle.souper_graph.specs.declared.ast.operands.Operand.{Operand}
use Rattle.souper_graph.specs.declared.ast.operands.Operand.TheVariants.{Value}
use Rattle.souper_graph.specs.declared.ast.instructions.Instruction.{Instruction}
use Rattle.souper_graph.specs.declared.ast.instructions.Instruction.TheVariants.{Hole}
use Rattle.souper_graph.specs.Instructions.{word_of, operands_of}
use Rattle.souper_ir.specs.declared.parse.words.Opcode.{Opcode}
use Rattle.souper_ir.specs.declared.parse.words.Opcode.TheVariants.{Add as do_add, AddNsw as do_add_nsw, AddNuw as do_add_nuw, AddNw as do_add_nw, Sub as do_sub, SubNsw as do_sub_nsw, SubNuw as do_sub_nuw, SubNw as do_sub_nw, Mul as do_mul, MulNsw as do_mul_nsw, MulNuw as do_mul_nuw, MulNw as do_mul_nw, Udiv as do_udiv, Sdiv as do_sdiv, UdivExact as do_udiv_exact, SdivExact as do_sdiv_exact, Urem as do_urem, Srem as do_srem, And as do_and, Or as do_or, Xor as do_xor, Shl as do_shl, ShlNsw as do_shl_nsw, ShlNuw as do_shl_nuw, ShlNw as do_shl_nw, Lshr as do_lshr, LshrExact as do_lshr_exact, Ashr as do_ashr, AshrExact as do_ashr_exact, Eq as do_eq, Ne as do_ne, Ult as do_ult, Slt as do_slt, Ule as do_ule, Sle as do_sle, SaddWithOverflow as do_sadd_with_overflow, UaddWithOverflow as do_uadd_with_overflow, SsubWithOverflow as do_ssub_with_overflow, UsubWithOverflow as do_usub_with_overflow, SmulWithOverflow as do_smul_with_overflow, UmulWithOverflow as do_umul_with_overflow, SaddSat as do_sadd_sat, UaddSat as do_uadd_sat, SsubSat as do_ssub_sat, UsubSat as do_usub_sat, ExtractValue as do_extract_value, Zext as do_zext, Sext as do_sext, Trunc as do_trunc, Ctpop as do_ctpop, Bswap as do_bswap, BitReverse as do_bit_reverse, Cttz as do_cttz, Ctlz as do_ctlz, Freeze as do_freeze, Select as do_select, Fshl as do_fshl, Fshr as do_fshr, Hole as do_hole}
use Rattle.souper_ir.specs.Words.{opcode_of, Shape, no_operand, one_operand, two_operands, three_operands, shape_of, count_of_shape, operand_count, instruction_of_shape, instruction_by}
use Rattle.souper_ir.specs.Laws.Peeks.{some_is}
use Rattle.souper_ir.specs.Laws.Tokens.{by_word}

-- ---- the opcode of an instruction

-- the word of the instruction names the opcode, which makes the instruction of its operands
abbrev pub OpcodeOf : Instruction → Opcode → Type 0
OpcodeOf i o = (opcode_of (word_of i) ≡ Some o) × (operand_count o ≡ length (operands_of i)) × (instruction_by o (operands_of i) ≡ Some i)

pub opcode_is : (i : Instruction) → (o : Opcode) × OpcodeOf i o
opcode_is Hole = (do_hole, (refl, refl, refl))
opcode_is _ = (_, (refl, refl, refl))

abbrev pub opcode : Instruction → Opcode
opcode i = (opcode_is i).0

-- ---- the instruction of an opcode

-- the instruction is of the opcode, and has these operands
abbrev Made : Opcode → List Operand → Instruction → Type 0
Made o xs i = (opcode i ≡ o) × (operands_of i ≡ xs)

-- an instruction of the shape, of as many of these operands as it takes
abbrev shaped : Shape → Operand → Operand → Operand → Instruction
shaped (no_operand i) a b c = i
shaped (one_operand f) a b c = f a
shaped (two_operands f) a b c = f a b
shaped (three_operands f) a b c = f a b c

-- each instruction of the shape is so made
abbrev Makes : Opcode → Shape → Type 0
Makes o s = (a b c : Operand) → Made o (take (count_of_shape s) (a ∷ b ∷ c ∷ [])) (shaped s a b c)

shape_makes : (o : Opcode) (s : Shape) (xs : List Operand) (i : Instruction) → Makes o s → instruction_of_shape s xs ≡ Some i → Made o xs i
shape_makes o (no_operand j) [] i h e = subst (Made o []) (some_is e) (h (Value 0) (Value 0) (Value 0))
shape_makes o (one_operand f) (a ∷ []) i h e = subst (Made o (a ∷ [])) (some_is e) (h a a a)
shape_makes o (two_operands f) (a ∷ (b ∷ [])) i h e = subst (Made o (a ∷ b ∷ [])) (some_is e) (h a b b)
shape_makes o (three_operands f) (a ∷ (b ∷ (c ∷ []))) i h e = subst (Made o (a ∷ b ∷ c ∷ [])) (some_is e) (h a b c)
shape_makes o _ _ i h e = absurd cc

opcode_fits : (o : Opcode) → Makes o (shape_of o)
unfolding opcode_is
opcode_fits do_hole a b c = (refl, refl)
opcode_fits _ a b c = (refl, refl)

pub made_means : (o : Opcode) (xs : List Operand) (i : Instruction) → instruction_by o xs ≡ Some i → (opcode i ≡ o) × (operands_of i ≡ xs)
made_means o xs i e = shape_makes o (shape_of o) xs i (opcode_fits o) e

-- ---- the word of an opcode

-- an instruction of the opcode
abbrev pub some_of : Opcode → Instruction
some_of o = shaped (shape_of o) (Value 0) (Value 0) (Value 0)

abbrev pub word_by : Opcode → List ℕ
word_by o = word_of (some_of o)

-- a word that names one of these, the first that does
abbrev pub named_in : {K : Type 0} → (K → List ℕ) → List K → List ℕ → Option K
named_in word [] w = None
named_in word (x ∷ xs) w = if bytes_eq w (word x) then Some x else named_in word xs w

pub named : {K : Type 0} (word : K → List ℕ) (xs : List K) (w : List ℕ) (k : K) → named_in word xs w ≡ Some k → w ≡ word k
named word [] w k e = absurd cc
named word (x ∷ xs) w k e = by_word (λ w k. w ≡ word k) w (word x) x k (named_in word xs w) e refl (named word xs w k)

either_named : (b : Bool) (m n : Option Opcode) (w : List ℕ) (o : Opcode) → (m ≡ Some o → w ≡ word_by o) → (n ≡ Some o → w ≡ word_by o) → (if b then m else n) ≡ Some o → w ≡ word_by o
either_named true m n w o f g = f
either_named false m n w o f g = g

pub opcode_named : (w : List ℕ) (o : Opcode) → opcode_of w ≡ Some o → w ≡ word_by o
opcode_named w o =
    either_named (nat_eq (length w) 2) _ _ w o (named word_by (do_or ∷ do_eq ∷ do_ne ∷ []) w o) (
    either_named (nat_eq (length w) 3) _ _ w o (named word_by (do_add ∷ do_sub ∷ do_mul ∷ do_and ∷ do_xor ∷ do_shl ∷ do_ult ∷ do_slt ∷ do_ule ∷ do_sle ∷ []) w o) (
    either_named (nat_eq (length w) 4) _ _ w o
    (named word_by (do_udiv ∷ do_sdiv ∷ do_urem ∷ do_srem ∷ do_lshr ∷ do_ashr ∷ do_zext ∷ do_sext ∷ do_cttz ∷ do_ctlz ∷ do_fshl ∷ do_fshr ∷ do_hole ∷ []) w o) (
    either_named (nat_eq (length w) 5) _ _ w o (named word_by (do_add_nw ∷ do_sub_nw ∷ do_mul_nw ∷ do_shl_nw ∷ do_trunc ∷ do_ctpop ∷ do_bswap ∷ []) w o) (
    either_named (nat_eq (length w) 6) _ _ w o
    (named word_by (do_add_nsw ∷ do_add_nuw ∷ do_sub_nsw ∷ do_sub_nuw ∷ do_mul_nsw ∷ do_mul_nuw ∷ do_shl_nsw ∷ do_shl_nuw ∷ do_freeze ∷ do_select ∷ []) w o)
    (named word_by (do_udiv_exact ∷ do_sdiv_exact ∷ do_lshr_exact ∷ do_ashr_exact
    ∷ do_sadd_with_overflow ∷ do_uadd_with_overflow ∷ do_ssub_with_overflow ∷ do_usub_with_overflow ∷ do_smul_with_overflow ∷ do_umul_with_overflow
    ∷ do_sadd_sat ∷ do_uadd_sat ∷ do_ssub_sat ∷ do_usub_sat ∷ do_extract_value ∷ do_bit_reverse ∷ []) w o)))))

pub word_by_is : (o : Opcode) → opcode_of (word_by o) ≡ Some o
word_by_is do_hole = refl
word_by_is _ = refl

pub word_is_by : (i : Instruction) → word_by (opcode i) ≡ word_of i
unfolding opcode_is
word_is_by Hole = refl
word_is_by _ = refl
