-- The instruction that a word and operands make.
use Rattle.std.proofs.Common.{◌≡◌, ℕ, List, [], ◌∷◌, Option, Some, None, refl, sym, ◌∙◌}
use Rattle.std.specs.Prelude.{codes, bytes_eq, if◌then◌else◌}
use Rattle.std.proofs.lemmas.Option.{same_Some}
use Rattle.souper_graph.specs.declared.ast.operands.Operand.{Operand}
use Rattle.souper_graph.specs.declared.ast.instructions.Instruction.{Instruction}
use Rattle.souper_graph.specs.declared.ast.instructions.Instruction.TheVariants.{Add, AddNsw, AddNuw, AddNw, Sub, SubNsw, SubNuw, SubNw, Mul, MulNsw, MulNuw, MulNw, Udiv, Sdiv, UdivExact, SdivExact, Urem, Srem, And, Or, Xor, Shl, ShlNsw, ShlNuw, ShlNw, Lshr, LshrExact, Ashr, AshrExact, Select, Zext, Sext, Trunc, Eq, Ne, Ult, Slt, Ule, Sle, Ctpop, Bswap, BitReverse, Cttz, Ctlz, Fshl, Fshr, SaddWithOverflow, UaddWithOverflow, SsubWithOverflow, UsubWithOverflow, SmulWithOverflow, UmulWithOverflow, SaddSat, UaddSat, SsubSat, UsubSat, ExtractValue, Hole, Freeze}
use Rattle.souper_graph.specs.Instructions.{word_of, operands_of}

abbrev one_of : (Operand → Instruction) → List Operand → Option Instruction
one_of f (a ∷ []) = Some (f a)
one_of f xs = None

abbrev two_of : (Operand → Operand → Instruction) → List Operand → Option Instruction
two_of f (a ∷ b ∷ []) = Some (f a b)
two_of f xs = None

abbrev three_of : (Operand → Operand → Operand → Instruction) → List Operand → Option Instruction
three_of f (a ∷ b ∷ c ∷ []) = Some (f a b c)
three_of f xs = None

abbrev made_of : List ℕ → List Operand → Option Instruction
made_of w xs =
    if bytes_eq w (codes "add") then two_of (λ a b. Add a b) xs else (
    if bytes_eq w (codes "addnsw") then two_of (λ a b. AddNsw a b) xs else (
    if bytes_eq w (codes "addnuw") then two_of (λ a b. AddNuw a b) xs else (
    if bytes_eq w (codes "addnw") then two_of (λ a b. AddNw a b) xs else (
    if bytes_eq w (codes "sub") then two_of (λ a b. Sub a b) xs else (
    if bytes_eq w (codes "subnsw") then two_of (λ a b. SubNsw a b) xs else (
    if bytes_eq w (codes "subnuw") then two_of (λ a b. SubNuw a b) xs else (
    if bytes_eq w (codes "subnw") then two_of (λ a b. SubNw a b) xs else (
    if bytes_eq w (codes "mul") then two_of (λ a b. Mul a b) xs else (
    if bytes_eq w (codes "mulnsw") then two_of (λ a b. MulNsw a b) xs else (
    if bytes_eq w (codes "mulnuw") then two_of (λ a b. MulNuw a b) xs else (
    if bytes_eq w (codes "mulnw") then two_of (λ a b. MulNw a b) xs else (
    if bytes_eq w (codes "udiv") then two_of (λ a b. Udiv a b) xs else (
    if bytes_eq w (codes "sdiv") then two_of (λ a b. Sdiv a b) xs else (
    if bytes_eq w (codes "udivexact") then two_of (λ a b. UdivExact a b) xs else (
    if bytes_eq w (codes "sdivexact") then two_of (λ a b. SdivExact a b) xs else (
    if bytes_eq w (codes "urem") then two_of (λ a b. Urem a b) xs else (
    if bytes_eq w (codes "srem") then two_of (λ a b. Srem a b) xs else (
    if bytes_eq w (codes "and") then two_of (λ a b. And a b) xs else (
    if bytes_eq w (codes "or") then two_of (λ a b. Or a b) xs else (
    if bytes_eq w (codes "xor") then two_of (λ a b. Xor a b) xs else (
    if bytes_eq w (codes "shl") then two_of (λ a b. Shl a b) xs else (
    if bytes_eq w (codes "shlnsw") then two_of (λ a b. ShlNsw a b) xs else (
    if bytes_eq w (codes "shlnuw") then two_of (λ a b. ShlNuw a b) xs else (
    if bytes_eq w (codes "shlnw") then two_of (λ a b. ShlNw a b) xs else (
    if bytes_eq w (codes "lshr") then two_of (λ a b. Lshr a b) xs else (
    if bytes_eq w (codes "lshrexact") then two_of (λ a b. LshrExact a b) xs else (
    if bytes_eq w (codes "ashr") then two_of (λ a b. Ashr a b) xs else (
    if bytes_eq w (codes "ashrexact") then two_of (λ a b. AshrExact a b) xs else (
    if bytes_eq w (codes "select") then three_of (λ a b c. Select a b c) xs else (
    if bytes_eq w (codes "zext") then one_of (λ a. Zext a) xs else (
    if bytes_eq w (codes "sext") then one_of (λ a. Sext a) xs else (
    if bytes_eq w (codes "trunc") then one_of (λ a. Trunc a) xs else (
    if bytes_eq w (codes "eq") then two_of (λ a b. Eq a b) xs else (
    if bytes_eq w (codes "ne") then two_of (λ a b. Ne a b) xs else (
    if bytes_eq w (codes "ult") then two_of (λ a b. Ult a b) xs else (
    if bytes_eq w (codes "slt") then two_of (λ a b. Slt a b) xs else (
    if bytes_eq w (codes "ule") then two_of (λ a b. Ule a b) xs else (
    if bytes_eq w (codes "sle") then two_of (λ a b. Sle a b) xs else (
    if bytes_eq w (codes "ctpop") then one_of (λ a. Ctpop a) xs else (
    if bytes_eq w (codes "bswap") then one_of (λ a. Bswap a) xs else (
    if bytes_eq w (codes "bitreverse") then one_of (λ a. BitReverse a) xs else (
    if bytes_eq w (codes "cttz") then one_of (λ a. Cttz a) xs else (
    if bytes_eq w (codes "ctlz") then one_of (λ a. Ctlz a) xs else (
    if bytes_eq w (codes "fshl") then three_of (λ a b c. Fshl a b c) xs else (
    if bytes_eq w (codes "fshr") then three_of (λ a b c. Fshr a b c) xs else (
    if bytes_eq w (codes "sadd.with.overflow") then two_of (λ a b. SaddWithOverflow a b) xs else (
    if bytes_eq w (codes "uadd.with.overflow") then two_of (λ a b. UaddWithOverflow a b) xs else (
    if bytes_eq w (codes "ssub.with.overflow") then two_of (λ a b. SsubWithOverflow a b) xs else (
    if bytes_eq w (codes "usub.with.overflow") then two_of (λ a b. UsubWithOverflow a b) xs else (
    if bytes_eq w (codes "smul.with.overflow") then two_of (λ a b. SmulWithOverflow a b) xs else (
    if bytes_eq w (codes "umul.with.overflow") then two_of (λ a b. UmulWithOverflow a b) xs else (
    if bytes_eq w (codes "sadd.sat") then two_of (λ a b. SaddSat a b) xs else (
    if bytes_eq w (codes "uadd.sat") then two_of (λ a b. UaddSat a b) xs else (
    if bytes_eq w (codes "ssub.sat") then two_of (λ a b. SsubSat a b) xs else (
    if bytes_eq w (codes "usub.sat") then two_of (λ a b. UsubSat a b) xs else (
    if bytes_eq w (codes "extractvalue") then two_of (λ a b. ExtractValue a b) xs else (
    if bytes_eq w (codes "hole") then Some Hole else (
    if bytes_eq w (codes "freeze") then one_of (λ a. Freeze a) xs else (
    None)))))))))))))))))))))))))))))))))))))))))))))))))))))))))))

made-is : (i : Instruction) → made_of (word_of i) (operands_of i) ≡ Some i
made-is Hole = refl
made-is _ = refl

-- an instruction is known by its word and its operands
pub one-instruction : (i k : Instruction) → word_of i ≡ word_of k → operands_of i ≡ operands_of k → i ≡ k
one-instruction i k w o = same_Some i k (sym (made-is i) ∙ (λ j. made_of (w j) (o j)) ∙ made-is k)
