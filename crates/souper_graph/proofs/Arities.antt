-- An instruction as a constructor of its operands: a property proved for each number of operands holds of every instruction.
use Rattle.std.proofs.Common.{◌≡◌, ℕ, List, [], ◌∷◌, true, refl}
use Rattle.souper_graph.specs.declared.ast.operands.Operand.{Operand}
use Rattle.souper_graph.specs.declared.ast.instructions.Instruction.{Instruction}
use Rattle.souper_graph.specs.declared.ast.instructions.Instruction.TheVariants.{Add, AddNsw, AddNuw, AddNw, Sub, SubNsw, SubNuw, SubNw, Mul, MulNsw, MulNuw, MulNw, Udiv, Sdiv, UdivExact, SdivExact, Urem, Srem, And, Or, Xor, Shl, ShlNsw, ShlNuw, ShlNw, Lshr, LshrExact, Ashr, AshrExact, Select, Zext, Sext, Trunc, Eq, Ne, Ult, Slt, Ule, Sle, Ctpop, Bswap, BitReverse, Cttz, Ctlz, Fshl, Fshr, SaddWithOverflow, UaddWithOverflow, SsubWithOverflow, UsubWithOverflow, SmulWithOverflow, UmulWithOverflow, SaddSat, UaddSat, SsubSat, UsubSat, ExtractValue, Hole, Freeze}
use Rattle.souper_graph.specs.Instructions.{word_of, operands_of, instruction_map}
use Rattle.souper_graph.proofs.RoundTrip.Lexemes.{is_word}

-- the constructor F makes instructions of one word, a word of the grammar, and its arguments are their operands
pub record IsUnary (F : Operand → Instruction) (w : List ℕ) : Type 0 where
  pub spelled : is_word w ≡ true
  pub word : (a : Operand) → word_of (F a) ≡ w
  pub operands : (a : Operand) → operands_of (F a) ≡ a ∷ []
  pub mapped : (g : Operand → Operand) (a : Operand) → instruction_map g (F a) ≡ F (g a)

pub record IsBinary (F : Operand → Operand → Instruction) (w : List ℕ) : Type 0 where
  pub spelled : is_word w ≡ true
  pub word : (a b : Operand) → word_of (F a b) ≡ w
  pub operands : (a b : Operand) → operands_of (F a b) ≡ a ∷ b ∷ []
  pub mapped : (g : Operand → Operand) (a b : Operand) → instruction_map g (F a b) ≡ F (g a) (g b)

pub record IsTernary (F : Operand → Operand → Operand → Instruction) (w : List ℕ) : Type 0 where
  pub spelled : is_word w ≡ true
  pub word : (a b c : Operand) → word_of (F a b c) ≡ w
  pub operands : (a b c : Operand) → operands_of (F a b c) ≡ a ∷ b ∷ c ∷ []
  pub mapped : (g : Operand → Operand) (a b c : Operand) → instruction_map g (F a b c) ≡ F (g a) (g b) (g c)

pub data Arity : Instruction → Type 0 where
  no_operands : Arity Hole
  unary : (F : Operand → Instruction) (w : List ℕ) (a : Operand) → IsUnary F w → Arity (F a)
  binary : (F : Operand → Operand → Instruction) (w : List ℕ) (a b : Operand) → IsBinary F w → Arity (F a b)
  ternary : (F : Operand → Operand → Operand → Instruction) (w : List ℕ) (a b c : Operand) → IsTernary F w → Arity (F a b c)

pub arity_of : (i : Instruction) → Arity i
arity_of (Add a b) = binary (λ x y. Add x y) _ a b (record { spelled = refl; word = λ a b. refl; operands = λ a b. refl; mapped = λ g a b. refl })
arity_of (AddNsw a b) = binary (λ x y. AddNsw x y) _ a b (record { spelled = refl; word = λ a b. refl; operands = λ a b. refl; mapped = λ g a b. refl })
arity_of (AddNuw a b) = binary (λ x y. AddNuw x y) _ a b (record { spelled = refl; word = λ a b. refl; operands = λ a b. refl; mapped = λ g a b. refl })
arity_of (AddNw a b) = binary (λ x y. AddNw x y) _ a b (record { spelled = refl; word = λ a b. refl; operands = λ a b. refl; mapped = λ g a b. refl })
arity_of (Sub a b) = binary (λ x y. Sub x y) _ a b (record { spelled = refl; word = λ a b. refl; operands = λ a b. refl; mapped = λ g a b. refl })
arity_of (SubNsw a b) = binary (λ x y. SubNsw x y) _ a b (record { spelled = refl; word = λ a b. refl; operands = λ a b. refl; mapped = λ g a b. refl })
arity_of (SubNuw a b) = binary (λ x y. SubNuw x y) _ a b (record { spelled = refl; word = λ a b. refl; operands = λ a b. refl; mapped = λ g a b. refl })
arity_of (SubNw a b) = binary (λ x y. SubNw x y) _ a b (record { spelled = refl; word = λ a b. refl; operands = λ a b. refl; mapped = λ g a b. refl })
arity_of (Mul a b) = binary (λ x y. Mul x y) _ a b (record { spelled = refl; word = λ a b. refl; operands = λ a b. refl; mapped = λ g a b. refl })
arity_of (MulNsw a b) = binary (λ x y. MulNsw x y) _ a b (record { spelled = refl; word = λ a b. refl; operands = λ a b. refl; mapped = λ g a b. refl })
arity_of (MulNuw a b) = binary (λ x y. MulNuw x y) _ a b (record { spelled = refl; word = λ a b. refl; operands = λ a b. refl; mapped = λ g a b. refl })
arity_of (MulNw a b) = binary (λ x y. MulNw x y) _ a b (record { spelled = refl; word = λ a b. refl; operands = λ a b. refl; mapped = λ g a b. refl })
arity_of (Udiv a b) = binary (λ x y. Udiv x y) _ a b (record { spelled = refl; word = λ a b. refl; operands = λ a b. refl; mapped = λ g a b. refl })
arity_of (Sdiv a b) = binary (λ x y. Sdiv x y) _ a b (record { spelled = refl; word = λ a b. refl; operands = λ a b. refl; mapped = λ g a b. refl })
arity_of (UdivExact a b) = binary (λ x y. UdivExact x y) _ a b (record { spelled = refl; word = λ a b. refl; operands = λ a b. refl; mapped = λ g a b. refl })
arity_of (SdivExact a b) = binary (λ x y. SdivExact x y) _ a b (record { spelled = refl; word = λ a b. refl; operands = λ a b. refl; mapped = λ g a b. refl })
arity_of (Urem a b) = binary (λ x y. Urem x y) _ a b (record { spelled = refl; word = λ a b. refl; operands = λ a b. refl; mapped = λ g a b. refl })
arity_of (Srem a b) = binary (λ x y. Srem x y) _ a b (record { spelled = refl; word = λ a b. refl; operands = λ a b. refl; mapped = λ g a b. refl })
arity_of (And a b) = binary (λ x y. And x y) _ a b (record { spelled = refl; word = λ a b. refl; operands = λ a b. refl; mapped = λ g a b. refl })
arity_of (Or a b) = binary (λ x y. Or x y) _ a b (record { spelled = refl; word = λ a b. refl; operands = λ a b. refl; mapped = λ g a b. refl })
arity_of (Xor a b) = binary (λ x y. Xor x y) _ a b (record { spelled = refl; word = λ a b. refl; operands = λ a b. refl; mapped = λ g a b. refl })
arity_of (Shl a b) = binary (λ x y. Shl x y) _ a b (record { spelled = refl; word = λ a b. refl; operands = λ a b. refl; mapped = λ g a b. refl })
arity_of (ShlNsw a b) = binary (λ x y. ShlNsw x y) _ a b (record { spelled = refl; word = λ a b. refl; operands = λ a b. refl; mapped = λ g a b. refl })
arity_of (ShlNuw a b) = binary (λ x y. ShlNuw x y) _ a b (record { spelled = refl; word = λ a b. refl; operands = λ a b. refl; mapped = λ g a b. refl })
arity_of (ShlNw a b) = binary (λ x y. ShlNw x y) _ a b (record { spelled = refl; word = λ a b. refl; operands = λ a b. refl; mapped = λ g a b. refl })
arity_of (Lshr a b) = binary (λ x y. Lshr x y) _ a b (record { spelled = refl; word = λ a b. refl; operands = λ a b. refl; mapped = λ g a b. refl })
arity_of (LshrExact a b) = binary (λ x y. LshrExact x y) _ a b (record { spelled = refl; word = λ a b. refl; operands = λ a b. refl; mapped = λ g a b. refl })
arity_of (Ashr a b) = binary (λ x y. Ashr x y) _ a b (record { spelled = refl; word = λ a b. refl; operands = λ a b. refl; mapped = λ g a b. refl })
arity_of (AshrExact a b) = binary (λ x y. AshrExact x y) _ a b (record { spelled = refl; word = λ a b. refl; operands = λ a b. refl; mapped = λ g a b. refl })
arity_of (Select a b c) = ternary (λ x y z. Select x y z) _ a b c (record { spelled = refl; word = λ a b c. refl; operands = λ a b c. refl; mapped = λ g a b c. refl })
arity_of (Zext a) = unary (λ x. Zext x) _ a (record { spelled = refl; word = λ a. refl; operands = λ a. refl; mapped = λ g a. refl })
arity_of (Sext a) = unary (λ x. Sext x) _ a (record { spelled = refl; word = λ a. refl; operands = λ a. refl; mapped = λ g a. refl })
arity_of (Trunc a) = unary (λ x. Trunc x) _ a (record { spelled = refl; word = λ a. refl; operands = λ a. refl; mapped = λ g a. refl })
arity_of (Eq a b) = binary (λ x y. Eq x y) _ a b (record { spelled = refl; word = λ a b. refl; operands = λ a b. refl; mapped = λ g a b. refl })
arity_of (Ne a b) = binary (λ x y. Ne x y) _ a b (record { spelled = refl; word = λ a b. refl; operands = λ a b. refl; mapped = λ g a b. refl })
arity_of (Ult a b) = binary (λ x y. Ult x y) _ a b (record { spelled = refl; word = λ a b. refl; operands = λ a b. refl; mapped = λ g a b. refl })
arity_of (Slt a b) = binary (λ x y. Slt x y) _ a b (record { spelled = refl; word = λ a b. refl; operands = λ a b. refl; mapped = λ g a b. refl })
arity_of (Ule a b) = binary (λ x y. Ule x y) _ a b (record { spelled = refl; word = λ a b. refl; operands = λ a b. refl; mapped = λ g a b. refl })
arity_of (Sle a b) = binary (λ x y. Sle x y) _ a b (record { spelled = refl; word = λ a b. refl; operands = λ a b. refl; mapped = λ g a b. refl })
arity_of (Ctpop a) = unary (λ x. Ctpop x) _ a (record { spelled = refl; word = λ a. refl; operands = λ a. refl; mapped = λ g a. refl })
arity_of (Bswap a) = unary (λ x. Bswap x) _ a (record { spelled = refl; word = λ a. refl; operands = λ a. refl; mapped = λ g a. refl })
arity_of (BitReverse a) = unary (λ x. BitReverse x) _ a (record { spelled = refl; word = λ a. refl; operands = λ a. refl; mapped = λ g a. refl })
arity_of (Cttz a) = unary (λ x. Cttz x) _ a (record { spelled = refl; word = λ a. refl; operands = λ a. refl; mapped = λ g a. refl })
arity_of (Ctlz a) = unary (λ x. Ctlz x) _ a (record { spelled = refl; word = λ a. refl; operands = λ a. refl; mapped = λ g a. refl })
arity_of (Fshl a b c) = ternary (λ x y z. Fshl x y z) _ a b c (record { spelled = refl; word = λ a b c. refl; operands = λ a b c. refl; mapped = λ g a b c. refl })
arity_of (Fshr a b c) = ternary (λ x y z. Fshr x y z) _ a b c (record { spelled = refl; word = λ a b c. refl; operands = λ a b c. refl; mapped = λ g a b c. refl })
arity_of (SaddWithOverflow a b) = binary (λ x y. SaddWithOverflow x y) _ a b (record { spelled = refl; word = λ a b. refl; operands = λ a b. refl; mapped = λ g a b. refl })
arity_of (UaddWithOverflow a b) = binary (λ x y. UaddWithOverflow x y) _ a b (record { spelled = refl; word = λ a b. refl; operands = λ a b. refl; mapped = λ g a b. refl })
arity_of (SsubWithOverflow a b) = binary (λ x y. SsubWithOverflow x y) _ a b (record { spelled = refl; word = λ a b. refl; operands = λ a b. refl; mapped = λ g a b. refl })
arity_of (UsubWithOverflow a b) = binary (λ x y. UsubWithOverflow x y) _ a b (record { spelled = refl; word = λ a b. refl; operands = λ a b. refl; mapped = λ g a b. refl })
arity_of (SmulWithOverflow a b) = binary (λ x y. SmulWithOverflow x y) _ a b (record { spelled = refl; word = λ a b. refl; operands = λ a b. refl; mapped = λ g a b. refl })
arity_of (UmulWithOverflow a b) = binary (λ x y. UmulWithOverflow x y) _ a b (record { spelled = refl; word = λ a b. refl; operands = λ a b. refl; mapped = λ g a b. refl })
arity_of (SaddSat a b) = binary (λ x y. SaddSat x y) _ a b (record { spelled = refl; word = λ a b. refl; operands = λ a b. refl; mapped = λ g a b. refl })
arity_of (UaddSat a b) = binary (λ x y. UaddSat x y) _ a b (record { spelled = refl; word = λ a b. refl; operands = λ a b. refl; mapped = λ g a b. refl })
arity_of (SsubSat a b) = binary (λ x y. SsubSat x y) _ a b (record { spelled = refl; word = λ a b. refl; operands = λ a b. refl; mapped = λ g a b. refl })
arity_of (UsubSat a b) = binary (λ x y. UsubSat x y) _ a b (record { spelled = refl; word = λ a b. refl; operands = λ a b. refl; mapped = λ g a b. refl })
arity_of (ExtractValue a b) = binary (λ x y. ExtractValue x y) _ a b (record { spelled = refl; word = λ a b. refl; operands = λ a b. refl; mapped = λ g a b. refl })
arity_of Hole = no_operands
arity_of (Freeze a) = unary (λ x. Freeze x) _ a (record { spelled = refl; word = λ a. refl; operands = λ a. refl; mapped = λ g a. refl })
