-- Definitions. The word of an instruction, and the outcome of an instruction by the outcomes of its operands.
use Rattle.std.specs.Prelude.{ℕ, Option, Some, None, List, slice_get}
use Rattle.souper_graph.specs.declared.ast.operands.Operand.{Operand}
use Rattle.souper_graph.specs.declared.ast.operands.Operand.TheVariants.{Value, Constant}
use Rattle.souper_graph.specs.declared.ast.instructions.Instruction.{Instruction}
use Rattle.souper_graph.specs.declared.ast.instructions.Instruction.TheVariants.{Add, AddNsw, AddNuw, AddNw, Sub, SubNsw, SubNuw, SubNw, Mul, MulNsw, MulNuw, MulNw, Shl, ShlNsw, ShlNuw, ShlNw, Udiv, Sdiv, UdivExact, SdivExact, Urem, Srem, And, Or, Xor, Lshr, LshrExact, Ashr, AshrExact, Select, Zext, Sext, Trunc, Eq, Ne, Ult, Slt, Ule, Sle, Ctpop, Bswap, BitReverse, Cttz, Ctlz, Fshl, Fshr, SaddWithOverflow, UaddWithOverflow, SsubWithOverflow, UsubWithOverflow, SmulWithOverflow, UmulWithOverflow, SaddSat, UaddSat, SsubSat, UsubSat, ExtractValue, Freeze, Hole}
use Rattle.souper_graph.specs.Instructions.{operands_of}
use Rattle.souper_words.specs.declared.outcome.Outcome.{Outcome}
use Rattle.souper_words.specs.declared.outcome.Outcome.TheVariants.{Number, Undefined}
use Rattle.souper_words.specs.declared.words.Word.{Word}
use Rattle.souper_words.specs.declared.words.Word.TheVariants.{Add as add_word, AddNsw as add_nsw_word, AddNuw as add_nuw_word, AddNw as add_nw_word, Sub as sub_word, SubNsw as sub_nsw_word, SubNuw as sub_nuw_word, SubNw as sub_nw_word, Mul as mul_word, MulNsw as mul_nsw_word, MulNuw as mul_nuw_word, MulNw as mul_nw_word, Shl as shl_word, ShlNsw as shl_nsw_word, ShlNuw as shl_nuw_word, ShlNw as shl_nw_word, Udiv as udiv_word, Sdiv as sdiv_word, UdivExact as udiv_exact_word, SdivExact as sdiv_exact_word, Urem as urem_word, Srem as srem_word, And as and_word, Or as or_word, Xor as xor_word, Lshr as lshr_word, LshrExact as lshr_exact_word, Ashr as ashr_word, AshrExact as ashr_exact_word, Select as select_word, Zext as zext_word, Sext as sext_word, Trunc as trunc_word, Eq as eq_word, Ne as ne_word, Ult as ult_word, Slt as slt_word, Ule as ule_word, Sle as sle_word, Ctpop as ctpop_word, Bswap as bswap_word, BitReverse as bit_reverse_word, Cttz as cttz_word, Ctlz as ctlz_word, Fshl as fshl_word, Fshr as fshr_word, SaddWithOverflow as sadd_with_overflow_word, UaddWithOverflow as uadd_with_overflow_word, SsubWithOverflow as ssub_with_overflow_word, UsubWithOverflow as usub_with_overflow_word, SmulWithOverflow as smul_with_overflow_word, UmulWithOverflow as umul_with_overflow_word, SaddSat as sadd_sat_word, UaddSat as uadd_sat_word, SsubSat as ssub_sat_word, UsubSat as usub_sat_word, ExtractValue as extract_value_word, Freeze as freeze_word}
use Rattle.souper_words.specs.Numbers.{bits_of}
use Rattle.souper_words.specs.Words.{outcome}

-- a hole has no word
abbrev pub meaning_of : Instruction → Option Word
meaning_of (Add a b) = Some add_word
meaning_of (AddNsw a b) = Some add_nsw_word
meaning_of (AddNuw a b) = Some add_nuw_word
meaning_of (AddNw a b) = Some add_nw_word
meaning_of (Sub a b) = Some sub_word
meaning_of (SubNsw a b) = Some sub_nsw_word
meaning_of (SubNuw a b) = Some sub_nuw_word
meaning_of (SubNw a b) = Some sub_nw_word
meaning_of (Mul a b) = Some mul_word
meaning_of (MulNsw a b) = Some mul_nsw_word
meaning_of (MulNuw a b) = Some mul_nuw_word
meaning_of (MulNw a b) = Some mul_nw_word
meaning_of (Shl a b) = Some shl_word
meaning_of (ShlNsw a b) = Some shl_nsw_word
meaning_of (ShlNuw a b) = Some shl_nuw_word
meaning_of (ShlNw a b) = Some shl_nw_word
meaning_of (Udiv a b) = Some udiv_word
meaning_of (Sdiv a b) = Some sdiv_word
meaning_of (UdivExact a b) = Some udiv_exact_word
meaning_of (SdivExact a b) = Some sdiv_exact_word
meaning_of (Urem a b) = Some urem_word
meaning_of (Srem a b) = Some srem_word
meaning_of (And a b) = Some and_word
meaning_of (Or a b) = Some or_word
meaning_of (Xor a b) = Some xor_word
meaning_of (Lshr a b) = Some lshr_word
meaning_of (LshrExact a b) = Some lshr_exact_word
meaning_of (Ashr a b) = Some ashr_word
meaning_of (AshrExact a b) = Some ashr_exact_word
meaning_of (Select a b c) = Some select_word
meaning_of (Zext a) = Some zext_word
meaning_of (Sext a) = Some sext_word
meaning_of (Trunc a) = Some trunc_word
meaning_of (Eq a b) = Some eq_word
meaning_of (Ne a b) = Some ne_word
meaning_of (Ult a b) = Some ult_word
meaning_of (Slt a b) = Some slt_word
meaning_of (Ule a b) = Some ule_word
meaning_of (Sle a b) = Some sle_word
meaning_of (Ctpop a) = Some ctpop_word
meaning_of (Bswap a) = Some bswap_word
meaning_of (BitReverse a) = Some bit_reverse_word
meaning_of (Cttz a) = Some cttz_word
meaning_of (Ctlz a) = Some ctlz_word
meaning_of (Fshl a b c) = Some fshl_word
meaning_of (Fshr a b c) = Some fshr_word
meaning_of (SaddWithOverflow a b) = Some sadd_with_overflow_word
meaning_of (UaddWithOverflow a b) = Some uadd_with_overflow_word
meaning_of (SsubWithOverflow a b) = Some ssub_with_overflow_word
meaning_of (UsubWithOverflow a b) = Some usub_with_overflow_word
meaning_of (SmulWithOverflow a b) = Some smul_with_overflow_word
meaning_of (UmulWithOverflow a b) = Some umul_with_overflow_word
meaning_of (SaddSat a b) = Some sadd_sat_word
meaning_of (UaddSat a b) = Some uadd_sat_word
meaning_of (SsubSat a b) = Some ssub_sat_word
meaning_of (UsubSat a b) = Some usub_sat_word
meaning_of (ExtractValue a b) = Some extract_value_word
meaning_of (Freeze a) = Some freeze_word
meaning_of Hole = None

-- the outcome of an operand of n bits, if each position has this outcome
abbrev pub operand_outcome : (ℕ → Outcome) → ℕ → Operand → Outcome
operand_outcome at n (Value i) = at i
operand_outcome at n (Constant c) = Number (bits_of n c.value)

-- the widths of a first and a second operand, if operands have v bits: a select's condition and the index of a part have one
abbrev pub first_width : Word → ℕ → ℕ
first_width select_word v = 1
first_width x v = v

abbrev pub second_width : Word → ℕ → ℕ
second_width extract_value_word v = 1
second_width x v = v

-- an operand that a word lacks counts as 0
abbrev pub optional_outcome : (ℕ → Outcome) → ℕ → Option Operand → Outcome
optional_outcome at n None = Number 0
optional_outcome at n (Some o) = operand_outcome at n o

-- the outcome of a word on its operands
abbrev pub word_outcome : Word → ℕ → ℕ → ℕ → (ℕ → Outcome) → List Operand → Outcome
word_outcome x w v choice at os = outcome x w v choice (optional_outcome at (first_width x v) (slice_get os 0)) (optional_outcome at (second_width x v) (slice_get os 1)) (optional_outcome at v (slice_get os 2))

-- a hole has no meaning, and counts as undefined behaviour
abbrev pub optional_word_outcome : Option Word → ℕ → ℕ → ℕ → (ℕ → Outcome) → List Operand → Outcome
optional_word_outcome None w v choice at os = Undefined
optional_word_outcome (Some x) w v choice at os = word_outcome x w v choice at os

abbrev pub instruction_outcome : ℕ → ℕ → ℕ → (ℕ → Outcome) → Instruction → Outcome
instruction_outcome w v choice at i = optional_word_outcome (meaning_of i) w v choice at (operands_of i)
