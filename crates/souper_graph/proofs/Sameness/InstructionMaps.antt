-- A change of each operand of an instruction: on its operands, twice, and if two changes agree.
use Rattle.std.proofs.Common.{◌≡◌, List, [], ◌∷◌, map, refl, sym, ap, subst, ◌∙◌}
use Rattle.souper_graph.specs.declared.ast.operands.Operand.{Operand}
use Rattle.souper_graph.specs.declared.ast.instructions.Instruction.{Instruction}
use Rattle.souper_graph.specs.Instructions.{word_of, operands_of, instruction_map}
use Rattle.souper_graph.specs.Uses.{Has}
use Rattle.souper_graph.proofs.Lists.{Has-here, Has-later}
use Rattle.souper_graph.proofs.Arities.{Arity, no_operands, unary, binary, ternary, arity_of}

pub operands-map : (g : Operand → Operand) (i : Instruction) → operands_of (instruction_map g i) ≡ map g (operands_of i)
operands-map g i = of_arity i (arity_of i)
  where
    of_arity : (i : Instruction) → Arity i → operands_of (instruction_map g i) ≡ map g (operands_of i)
    of_arity _ no_operands = refl
    of_arity _ (unary F w a f) = rw (f.mapped g a, f.operands (g a), f.operands a) refl
    of_arity _ (binary F w a b f) = rw (f.mapped g a b, f.operands (g a) (g b), f.operands a b) refl
    of_arity _ (ternary F w a b c f) = rw (f.mapped g a b c, f.operands (g a) (g b) (g c), f.operands a b c) refl

pub instruction-twice : (g h : Operand → Operand) (i : Instruction) → instruction_map g (instruction_map h i) ≡ instruction_map (λ x. g (h x)) i
instruction-twice g h i = of_arity i (arity_of i)
  where
    of_arity : (i : Instruction) → Arity i → instruction_map g (instruction_map h i) ≡ instruction_map (λ x. g (h x)) i
    of_arity _ no_operands = refl
    of_arity _ (unary F w a f) = ap (instruction_map g) (f.mapped h a) ∙ f.mapped g (h a) ∙ sym (f.mapped (λ x. g (h x)) a)
    of_arity _ (binary F w a b f) = ap (instruction_map g) (f.mapped h a b) ∙ f.mapped g (h a) (h b) ∙ sym (f.mapped (λ x. g (h x)) a b)
    of_arity _ (ternary F w a b c f) = ap (instruction_map g) (f.mapped h a b c) ∙ f.mapped g (h a) (h b) (h c) ∙ sym (f.mapped (λ x. g (h x)) a b c)

pub instruction-itself : (i : Instruction) → instruction_map (λ x. x) i ≡ i
instruction-itself i = of_arity i (arity_of i)
  where
    of_arity : (i : Instruction) → Arity i → instruction_map (λ x. x) i ≡ i
    of_arity _ no_operands = refl
    of_arity _ (unary F w a f) = f.mapped (λ x. x) a
    of_arity _ (binary F w a b f) = f.mapped (λ x. x) a b
    of_arity _ (ternary F w a b c f) = f.mapped (λ x. x) a b c

-- g and h agree on these operands
abbrev Agree : (Operand → Operand) → (Operand → Operand) → List Operand → Type 0
Agree g h xs = (x : Operand) → Has xs x → g x ≡ h x

one : (F : Operand → Instruction) (g h : Operand → Operand) (a : Operand) → Agree g h (a ∷ []) → F (g a) ≡ F (h a)
one F g h a e = ap F (e a (Has-here a []))

two : (F : Operand → Operand → Instruction) (g h : Operand → Operand) (a b : Operand) → Agree g h (a ∷ b ∷ []) → F (g a) (g b) ≡ F (h a) (h b)
two F g h a b e = ap (λ x. F x (g b)) (e a (Has-here a (b ∷ []))) ∙ one (F (h a)) g h b (λ x q. e x (Has-later a x (b ∷ []) q))

three : (F : Operand → Operand → Operand → Instruction) (g h : Operand → Operand) (a b c : Operand) → Agree g h (a ∷ b ∷ c ∷ []) →
    F (g a) (g b) (g c) ≡ F (h a) (h b) (h c)
three F g h a b c e =
    ap (λ x. F x (g b) (g c)) (e a (Has-here a (b ∷ c ∷ []))) ∙ two (F (h a)) g h b c (λ x q. e x (Has-later a x (b ∷ c ∷ []) q))

pub instruction-same : (g h : Operand → Operand) (i : Instruction) → Agree g h (operands_of i) → instruction_map g i ≡ instruction_map h i
instruction-same g h i = of_arity i (arity_of i)
  where
    of_arity : (i : Instruction) → Arity i → Agree g h (operands_of i) → instruction_map g i ≡ instruction_map h i
    of_arity _ no_operands e = refl
    of_arity _ (unary F w a f) e = f.mapped g a ∙ one F g h a (subst (Agree g h) (f.operands a) e) ∙ sym (f.mapped h a)
    of_arity _ (binary F w a b f) e = f.mapped g a b ∙ two F g h a b (subst (Agree g h) (f.operands a b) e) ∙ sym (f.mapped h a b)
    of_arity _ (ternary F w a b c f) e = f.mapped g a b c ∙ three F g h a b c (subst (Agree g h) (f.operands a b c) e) ∙ sym (f.mapped h a b c)

pub word-map : (g : Operand → Operand) (i : Instruction) → word_of (instruction_map g i) ≡ word_of i
word-map g i = of_arity i (arity_of i)
  where
    of_arity : (i : Instruction) → Arity i → word_of (instruction_map g i) ≡ word_of i
    of_arity _ no_operands = refl
    of_arity _ (unary F w a f) = ap word_of (f.mapped g a) ∙ f.word (g a) ∙ sym (f.word a)
    of_arity _ (binary F w a b f) = ap word_of (f.mapped g a b) ∙ f.word (g a) (g b) ∙ sym (f.word a b)
    of_arity _ (ternary F w a b c f) = ap word_of (f.mapped g a b c) ∙ f.word (g a) (g b) (g c) ∙ sym (f.word a b c)
