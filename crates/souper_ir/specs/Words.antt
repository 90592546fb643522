-- Definitions. The instruction that a word and operands make.
use Rattle.std.specs.Prelude.{ℕ, List, [], ◌∷◌, length, Option, Some, None, codes, bytes_eq, nat_eq, if◌then◌else◌}
use Rattle.souper_graph.specs.declared.ast.operands.Operand.{Operand}
use Rattle.souper_graph.specs.declared.ast.instructions.Instruction.{Instruction}
use Rattle.souper_graph.specs.declared.ast.instructions.Instruction.TheVariants.{Add, AddNsw, AddNuw, AddNw, Sub, SubNsw, SubNuw, SubNw, Mul, MulNsw, MulNuw, MulNw, Udiv, Sdiv, UdivExact, SdivExact, Urem, Srem, And, Or, Xor, Shl, ShlNsw, ShlNuw, ShlNw, Lshr, LshrExact, Ashr, AshrExact, Eq, Ne, Ult, Slt, Ule, Sle, SaddWithOverflow, UaddWithOverflow, SsubWithOverflow, UsubWithOverflow, SmulWithOverflow, UmulWithOverflow, SaddSat, UaddSat, SsubSat, UsubSat, ExtractValue, Zext, Sext, Trunc, Ctpop, Bswap, BitReverse, Cttz, Ctlz, Freeze, Select, Fshl, Fshr, Hole}
use Rattle.souper_ir.specs.declared.parse.words.Opcode.{Opcode}
use Rattle.souper_ir.specs.declared.parse.words.Opcode.TheVariants.{Add as do_add, AddNsw as do_add_nsw, AddNuw as do_add_nuw, AddNw as do_add_nw, Sub as do_sub, SubNsw as do_sub_nsw, SubNuw as do_sub_nuw, SubNw as do_sub_nw, Mul as do_mul, MulNsw as do_mul_nsw, MulNuw as do_mul_nuw, MulNw as do_mul_nw, Udiv as do_udiv, Sdiv as do_sdiv, UdivExact as do_udiv_exact, SdivExact as do_sdiv_exact, Urem as do_urem, Srem as do_srem, And as do_and, Or as do_or, Xor as do_xor, Shl as do_shl, ShlNsw as do_shl_nsw, ShlNuw as do_shl_nuw, ShlNw as do_shl_nw, Lshr as do_lshr, LshrExact as do_lshr_exact, Ashr as do_ashr, AshrExact as do_ashr_exact, Eq as do_eq, Ne as do_ne, Ult as do_ult, Slt as do_slt, Ule as do_ule, Sle as do_sle, SaddWithOverflow as do_sadd_with_overflow, UaddWithOverflow as do_uadd_with_overflow, SsubWithOverflow as do_ssub_with_overflow, UsubWithOverflow as do_usub_with_overflow, SmulWithOverflow as do_smul_with_overflow, UmulWithOverflow as do_umul_with_overflow, SaddSat as do_sadd_sat, UaddSat as do_uadd_sat, SsubSat as do_ssub_sat, UsubSat as do_usub_sat, ExtractValue as do_extract_value, Zext as do_zext, Sext as do_sext, Trunc as do_trunc, Ctpop as do_ctpop, Bswap as do_bswap, BitReverse as do_bit_reverse, Cttz as do_cttz, Ctlz as do_ctlz, Freeze as do_freeze, Select as do_select, Fshl as do_fshl, Fshr as do_fshr, Hole as do_hole}
use Rattle.souper_ir.specs.declared.parse.words.RhsWord.{RhsWord}
use Rattle.souper_ir.specs.declared.parse.words.RhsWord.TheVariants.{Var as begins_var, Block as begins_block, Phi as begins_phi, ReservedInst as begins_reserved_inst, ReservedConst as begins_reserved_const, Instruction as begins_instruction}

abbrev pub two_letters_of : List ℕ → Option Opcode
two_letters_of w =
    if bytes_eq w (codes "or") then Some do_or else (
    if bytes_eq w (codes "eq") then Some do_eq else (
    if bytes_eq w (codes "ne") then Some do_ne else None))

abbrev pub three_letters_of : List ℕ → Option Opcode
three_letters_of w =
    if bytes_eq w (codes "add") then Some do_add else (
    if bytes_eq w (codes "sub") then Some do_sub else (
    if bytes_eq w (codes "mul") then Some do_mul else (
    if bytes_eq w (codes "and") then Some do_and else (
    if bytes_eq w (codes "xor") then Some do_xor else (
    if bytes_eq w (codes "shl") then Some do_shl else (
    if bytes_eq w (codes "ult") then Some do_ult else (
    if bytes_eq w (codes "slt") then Some do_slt else (
    if bytes_eq w (codes "ule") then Some do_ule else (
    if bytes_eq w (codes "sle") then Some do_sle else None)))))))))

abbrev pub four_letters_of : List ℕ → Option Opcode
four_letters_of w =
    if bytes_eq w (codes "udiv") then Some do_udiv else (
    if bytes_eq w (codes "sdiv") then Some do_sdiv else (
    if bytes_eq w (codes "urem") then Some do_urem else (
    if bytes_eq w (codes "srem") then Some do_srem else (
    if bytes_eq w (codes "lshr") then Some do_lshr else (
    if bytes_eq w (codes "ashr") then Some do_ashr else (
    if bytes_eq w (codes "zext") then Some do_zext else (
    if bytes_eq w (codes "sext") then Some do_sext else (
    if bytes_eq w (codes "cttz") then Some do_cttz else (
    if bytes_eq w (codes "ctlz") then Some do_ctlz else (
    if bytes_eq w (codes "fshl") then Some do_fshl else (
    if bytes_eq w (codes "fshr") then Some do_fshr else (
    if bytes_eq w (codes "hole") then Some do_hole else None))))))))))))

abbrev pub five_letters_of : List ℕ → Option Opcode
five_letters_of w =
    if bytes_eq w (codes "addnw") then Some do_add_nw else (
    if bytes_eq w (codes "subnw") then Some do_sub_nw else (
    if bytes_eq w (codes "mulnw") then Some do_mul_nw else (
    if bytes_eq w (codes "shlnw") then Some do_shl_nw else (
    if bytes_eq w (codes "trunc") then Some do_trunc else (
    if bytes_eq w (codes "ctpop") then Some do_ctpop else (
    if bytes_eq w (codes "bswap") then Some do_bswap else None))))))

abbrev pub six_letters_of : List ℕ → Option Opcode
six_letters_of w =
    if bytes_eq w (codes "addnsw") then Some do_add_nsw else (
    if bytes_eq w (codes "addnuw") then Some do_add_nuw else (
    if bytes_eq w (codes "subnsw") then Some do_sub_nsw else (
    if bytes_eq w (codes "subnuw") then Some do_sub_nuw else (
    if bytes_eq w (codes "mulnsw") then Some do_mul_nsw else (
    if bytes_eq w (codes "mulnuw") then Some do_mul_nuw else (
    if bytes_eq w (codes "shlnsw") then Some do_shl_nsw else (
    if bytes_eq w (codes "shlnuw") then Some do_shl_nuw else (
    if bytes_eq w (codes "freeze") then Some do_freeze else (
    if bytes_eq w (codes "select") then Some do_select else None)))))))))

abbrev pub longer_of : List ℕ → Option Opcode
longer_of w =
    if bytes_eq w (codes "udivexact") then Some do_udiv_exact else (
    if bytes_eq w (codes "sdivexact") then Some do_sdiv_exact else (
    if bytes_eq w (codes "lshrexact") then Some do_lshr_exact else (
    if bytes_eq w (codes "ashrexact") then Some do_ashr_exact else (
    if bytes_eq w (codes "sadd.with.overflow") then Some do_sadd_with_overflow else (
    if bytes_eq w (codes "uadd.with.overflow") then Some do_uadd_with_overflow else (
    if bytes_eq w (codes "ssub.with.overflow") then Some do_ssub_with_overflow else (
    if bytes_eq w (codes "usub.with.overflow") then Some do_usub_with_overflow else (
    if bytes_eq w (codes "smul.with.overflow") then Some do_smul_with_overflow else (
    if bytes_eq w (codes "umul.with.overflow") then Some do_umul_with_overflow else (
    if bytes_eq w (codes "sadd.sat") then Some do_sadd_sat else (
    if bytes_eq w (codes "uadd.sat") then Some do_uadd_sat else (
    if bytes_eq w (codes "ssub.sat") then Some do_ssub_sat else (
    if bytes_eq w (codes "usub.sat") then Some do_usub_sat else (
    if bytes_eq w (codes "extractvalue") then Some do_extract_value else (
    if bytes_eq w (codes "bitreverse") then Some do_bit_reverse else None)))))))))))))))

-- the opcode that a word of that length names
abbrev pub opcode_of_length : ℕ → List ℕ → Option Opcode
opcode_of_length n w =
    if nat_eq n 2 then two_letters_of w else (
    if nat_eq n 3 then three_letters_of w else (
    if nat_eq n 4 then four_letters_of w else (
    if nat_eq n 5 then five_letters_of w else (
    if nat_eq n 6 then six_letters_of w else longer_of w))))

-- the opcode that a word names
abbrev pub opcode_of : List ℕ → Option Opcode
opcode_of w = opcode_of_length (length w) w

-- the right side that is no instruction
abbrev pub rhs_keyword_of : List ℕ → Option RhsWord
rhs_keyword_of w =
    if bytes_eq w (codes "var") then Some begins_var else (
    if bytes_eq w (codes "block") then Some begins_block else (
    if bytes_eq w (codes "phi") then Some begins_phi else (
    if bytes_eq w (codes "reservedinst") then Some begins_reserved_inst else (
    if bytes_eq w (codes "reservedconst") then Some begins_reserved_const else None))))

abbrev pub instruction_or : Option Opcode → Option RhsWord → Option RhsWord
instruction_or (Some o) other = Some (begins_instruction o)
instruction_or None other = other

-- the right side that a word begins
abbrev pub rhs_word_of : List ℕ → Option RhsWord
rhs_word_of w = instruction_or (opcode_of w) (rhs_keyword_of w)

-- an instruction by its operands, if they are as many as it takes
pub data Shape : Type 0 where
  no_operand : Instruction → Shape
  one_operand : (Operand → Instruction) → Shape
  two_operands : (Operand → Operand → Instruction) → Shape
  three_operands : (Operand → Operand → Operand → Instruction) → Shape

abbrev pub shape_of : Opcode → Shape
shape_of do_add = two_operands Add
shape_of do_add_nsw = two_operands AddNsw
shape_of do_add_nuw = two_operands AddNuw
shape_of do_add_nw = two_operands AddNw
shape_of do_sub = two_operands Sub
shape_of do_sub_nsw = two_operands SubNsw
shape_of do_sub_nuw = two_operands SubNuw
shape_of do_sub_nw = two_operands SubNw
shape_of do_mul = two_operands Mul
shape_of do_mul_nsw = two_operands MulNsw
shape_of do_mul_nuw = two_operands MulNuw
shape_of do_mul_nw = two_operands MulNw
shape_of do_udiv = two_operands Udiv
shape_of do_sdiv = two_operands Sdiv
shape_of do_udiv_exact = two_operands UdivExact
shape_of do_sdiv_exact = two_operands SdivExact
shape_of do_urem = two_operands Urem
shape_of do_srem = two_operands Srem
shape_of do_and = two_operands And
shape_of do_or = two_operands Or
shape_of do_xor = two_operands Xor
shape_of do_shl = two_operands Shl
shape_of do_shl_nsw = two_operands ShlNsw
shape_of do_shl_nuw = two_operands ShlNuw
shape_of do_shl_nw = two_operands ShlNw
shape_of do_lshr = two_operands Lshr
shape_of do_lshr_exact = two_operands LshrExact
shape_of do_ashr = two_operands Ashr
shape_of do_ashr_exact = two_operands AshrExact
shape_of do_eq = two_operands Eq
shape_of do_ne = two_operands Ne
shape_of do_ult = two_operands Ult
shape_of do_slt = two_operands Slt
shape_of do_ule = two_operands Ule
shape_of do_sle = two_operands Sle
shape_of do_sadd_with_overflow = two_operands SaddWithOverflow
shape_of do_uadd_with_overflow = two_operands UaddWithOverflow
shape_of do_ssub_with_overflow = two_operands SsubWithOverflow
shape_of do_usub_with_overflow = two_operands UsubWithOverflow
shape_of do_smul_with_overflow = two_operands SmulWithOverflow
shape_of do_umul_with_overflow = two_operands UmulWithOverflow
shape_of do_sadd_sat = two_operands SaddSat
shape_of do_uadd_sat = two_operands UaddSat
shape_of do_ssub_sat = two_operands SsubSat
shape_of do_usub_sat = two_operands UsubSat
shape_of do_extract_value = two_operands ExtractValue
shape_of do_zext = one_operand Zext
shape_of do_sext = one_operand Sext
shape_of do_trunc = one_operand Trunc
shape_of do_ctpop = one_operand Ctpop
shape_of do_bswap = one_operand Bswap
shape_of do_bit_reverse = one_operand BitReverse
shape_of do_cttz = one_operand Cttz
shape_of do_ctlz = one_operand Ctlz
shape_of do_freeze = one_operand Freeze
shape_of do_select = three_operands Select
shape_of do_fshl = three_operands Fshl
shape_of do_fshr = three_operands Fshr
shape_of do_hole = no_operand Hole

abbrev pub count_of_shape : Shape → ℕ
count_of_shape (no_operand i) = 0
count_of_shape (one_operand f) = 1
count_of_shape (two_operands f) = 2
count_of_shape (three_operands f) = 3

-- the number of operands that an opcode takes
abbrev pub operand_count : Opcode → ℕ
operand_count o = count_of_shape (shape_of o)

abbrev pub instruction_of_shape : Shape → List Operand → Option Instruction
instruction_of_shape (no_operand i) [] = Some i
instruction_of_shape (one_operand f) (a ∷ []) = Some (f a)
instruction_of_shape (two_operands f) (a ∷ (b ∷ [])) = Some (f a b)
instruction_of_shape (three_operands f) (a ∷ (b ∷ (c ∷ []))) = Some (f a b c)
instruction_of_shape s xs = None

-- the instruction of an opcode with these operands, from left to right
abbrev pub instruction_by : Opcode → List Operand → Option Instruction
instruction_by o xs = instruction_of_shape (shape_of o) xs
