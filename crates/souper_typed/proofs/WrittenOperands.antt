-- Operands with their types: what stays, and what holds of them.
use Rattle.std.proofs.Common.{◌≡◌, ◌≢◌, ℕ, zero, suc, List, [], ◌∷◌, ◌++◌, map, refl, sym, ap, subst, ◌∙◌}
use Rattle.std.specs.Prelude.{ℤ, pos, negsuc, Option}
use Rattle.std.specs.List.{AllByRecursion}
use Rattle.souper_graph.specs.declared.ast.operands.«Type».{«Type» as Ty}
use Rattle.souper_graph.specs.declared.ast.operands.Operand.{Operand}
use Rattle.souper_graph.specs.declared.ast.operands.Operand.TheVariants.{Value, Constant}
use Rattle.souper_graph.specs.declared.ast.instructions.Instruction.{Instruction}
use Rattle.souper_graph.specs.declared.ast.instructions.Instruction.TheVariants.{Select as select_word, ExtractValue}
use Rattle.souper_graph.specs.Instructions.{operands_of, instruction_map}
use Rattle.souper_graph.specs.Uses.{Use, uses_of_operand, uses_of_operands}
use Rattle.souper_graph.specs.WellFormed.{FitsOperand}
use Rattle.souper_graph.proofs.Sameness.InstructionMaps.{instruction-twice, instruction-same}
use Rattle.souper_widths.specs.declared.rows.Row.{Row}
use Rattle.souper_widths.specs.declared.rows.Row.TheVariants.{Select, Number, Overflow, BadPart}
use Rattle.souper_widths.specs.Table.{part_of_number, part_at, instruction_row}
use Rattle.souper_widths.specs.Limits.{FitsBits}
use Rattle.souper_typed.specs.declared.form.Form.{Form}
use Rattle.souper_typed.specs.Numbers.{type_of, written_number, index_type}
use Rattle.souper_typed.specs.Written.{written_operand, written_index, written_instruction}
use Rattle.souper_typed.proofs.WrittenNumbers.{type-fits, number-fits, number-signed, number-again, index-type-fits, index-type-again}
use Rattle.souper_typed.proofs.Lists.{map-again, all-map}

pub operand-uses : (f : Form) (n : ℕ) (x : Operand) → uses_of_operand (written_operand f n x) ≡ uses_of_operand x
operand-uses f n (Value i) = refl
operand-uses f n (Constant c) = refl

pub index-uses : (f : Form) (x : Operand) → uses_of_operand (written_index f x) ≡ uses_of_operand x
index-uses f (Value i) = refl
index-uses f (Constant c) = refl

pub operand-fits : (f : Form) (n : ℕ) (x : Operand) → FitsOperand x → FitsOperand (written_operand f n x)
operand-fits f n (Value i) h = tt
operand-fits f n (Constant c) h = (number-signed f n c.value h.0, type-fits n)

pub index-fits : (f : Form) (x : Operand) → FitsOperand x → FitsOperand (written_index f x)
index-fits f (Value i) h = tt
index-fits f (Constant c) h = (h.0, index-type-fits f c.ty h.1)

pub operand-bits : (f : Form) (n : ℕ) (x : Operand) → FitsBits n x → FitsBits n (written_operand f n x)
operand-bits f n (Value i) h = tt
operand-bits f n (Constant c) h = number-fits f n c.value h

pub operand-again : (f : Form) (n : ℕ) (x : Operand) → written_operand f n (written_operand f n x) ≡ written_operand f n x
operand-again f n (Value i) = refl
operand-again f n (Constant c) = ap (λ (z : ℤ). Constant (record { value = z; ty = type_of n })) (number-again f n c.value)

pub index-again : (f : Form) (x : Operand) → written_index f (written_index f x) ≡ written_index f x
index-again f (Value i) = refl
index-again f (Constant c) = ap (λ (z : Option Ty). Constant (record { value = c.value; ty = z })) (index-type-again f c.ty)

-- the operands of a row
abbrev pub written_operands : Form → Row → ℕ → List Operand → List Operand
written_operands f Select v (x ∷ xs) = written_operand f 1 x ∷ map (written_operand f v) xs
written_operands f Number v (x ∷ xs) = written_operand f v x ∷ map (written_index f) xs
written_operands f Overflow v (x ∷ xs) = written_operand f v x ∷ map (written_index f) xs
written_operands f BadPart v (x ∷ xs) = written_operand f v x ∷ map (written_index f) xs
written_operands f r v xs = map (written_operand f v) xs

number-operands : (f : Form) (v : ℕ) (a b : Operand) (z : ℤ) → written_operand f v a ∷ written_index f b ∷ [] ≡ written_operands f (part_of_number z) v (a ∷ b ∷ [])
number-operands f v a b (pos zero) = refl
number-operands f v a b (pos (suc zero)) = refl
number-operands f v a b (pos (suc (suc n))) = refl
number-operands f v a b (negsuc n) = refl

part-operands : (f : Form) (v : ℕ) (a b : Operand) → written_operand f v a ∷ written_index f b ∷ [] ≡ written_operands f (part_at b) v (a ∷ b ∷ [])
part-operands f v a (Value i) = refl
part-operands f v a (Constant c) = number-operands f v a (Constant c) c.value

pub instruction-operands : (f : Form) (v : ℕ) (i : Instruction) → operands_of (written_instruction f v i) ≡ written_operands f (instruction_row i) v (operands_of i)
instruction-operands f v (select_word a b c) = refl
instruction-operands f v (ExtractValue a b) = part-operands f v a b
instruction-operands f v i = refl

-- an instruction that has no operand of its own width
pub other-instruction : (f : Form) (v : ℕ) (i : Instruction) → ((a b c : Operand) → i ≢ select_word a b c) → ((a b : Operand) → i ≢ ExtractValue a b) → written_instruction f v i ≡ instruction_map (written_operand f v) i
other-instruction f v (select_word a b c) s e = absurd (s a b c refl)
other-instruction f v (ExtractValue a b) s e = absurd (e a b refl)
other-instruction f v i s e = refl

index-row : (f : Form) (x : Operand) → part_at (written_index f x) ≡ part_at x
index-row f (Value i) = refl
index-row f (Constant c) = refl

pub instruction-row : (f : Form) (v : ℕ) (i : Instruction) → instruction_row (written_instruction f v i) ≡ instruction_row i
instruction-row f v (ExtractValue a b) = index-row f b
instruction-row f v i = refl

pub instruction-again : (f : Form) (v : ℕ) (i : Instruction) → written_instruction f v (written_instruction f v i) ≡ written_instruction f v i
instruction-again f v (select_word a b c) =
    ap (λ (z : Operand). select_word z (written_operand f v (written_operand f v b)) (written_operand f v (written_operand f v c))) (operand-again f 1 a)
    ∙ ap (λ (z : Operand). select_word (written_operand f 1 a) z (written_operand f v (written_operand f v c))) (operand-again f v b)
    ∙ ap (λ (z : Operand). select_word (written_operand f 1 a) (written_operand f v b) z) (operand-again f v c)
instruction-again f v (ExtractValue a b) =
    ap (λ (z : Operand). ExtractValue z (written_index f (written_index f b))) (operand-again f v a) ∙ ap (λ (z : Operand). ExtractValue (written_operand f v a) z) (index-again f b)
instruction-again f v i = instruction-twice (written_operand f v) (written_operand f v) i ∙ instruction-same (λ x. written_operand f v (written_operand f v x)) (written_operand f v) i (λ x _. operand-again f v x)

map-uses : (h : Operand → Operand) → ((x : Operand) → uses_of_operand (h x) ≡ uses_of_operand x) → (xs : List Operand) → uses_of_operands (map h xs) ≡ uses_of_operands xs
map-uses h e [] = refl
map-uses h e (x ∷ xs) = ap (λ (z : List Use). z ++ uses_of_operands (map h xs)) (e x) ∙ ap (λ (z : List Use). uses_of_operand x ++ z) (map-uses h e xs)

first-uses : (h : Operand → Operand) → ((x : Operand) → uses_of_operand (h x) ≡ uses_of_operand x) → (x y : Operand) (xs : List Operand) → uses_of_operand y ≡ uses_of_operand x
    → uses_of_operands (y ∷ map h xs) ≡ uses_of_operands (x ∷ xs)
first-uses h e x y xs same = ap (λ (z : List Use). z ++ uses_of_operands (map h xs)) same ∙ ap (λ (z : List Use). uses_of_operand x ++ z) (map-uses h e xs)

pub each-uses : (f : Form) (n : ℕ) (xs : List Operand) → uses_of_operands (map (written_operand f n) xs) ≡ uses_of_operands xs
each-uses f n xs = map-uses (written_operand f n) (operand-uses f n) xs

pub row-uses : (f : Form) (r : Row) (v : ℕ) (xs : List Operand) → uses_of_operands (written_operands f r v xs) ≡ uses_of_operands xs
row-uses f Select v (x ∷ xs) = first-uses (written_operand f v) (operand-uses f v) x (written_operand f 1 x) xs (operand-uses f 1 x)
row-uses f Number v (x ∷ xs) = first-uses (written_index f) (index-uses f) x (written_operand f v x) xs (operand-uses f v x)
row-uses f Overflow v (x ∷ xs) = first-uses (written_index f) (index-uses f) x (written_operand f v x) xs (operand-uses f v x)
row-uses f BadPart v (x ∷ xs) = first-uses (written_index f) (index-uses f) x (written_operand f v x) xs (operand-uses f v x)
row-uses f r v xs = each-uses f v xs

-- what holds of operands holds of those of a row
pub row-all : (P Q : Operand → Type 0) (f : Form) (v : ℕ) → ((n : ℕ) (x : Operand) → P x → Q (written_operand f n x)) → ((x : Operand) → P x → Q (written_index f x))
    → (r : Row) (xs : List Operand) → AllByRecursion P xs → AllByRecursion Q (written_operands f r v xs)
row-all P Q f v g k Select (x ∷ xs) h = (g 1 x h.0, all-map P Q (written_operand f v) (g v) xs h.1)
row-all P Q f v g k Number (x ∷ xs) h = (g v x h.0, all-map P Q (written_index f) k xs h.1)
row-all P Q f v g k Overflow (x ∷ xs) h = (g v x h.0, all-map P Q (written_index f) k xs h.1)
row-all P Q f v g k BadPart (x ∷ xs) h = (g v x h.0, all-map P Q (written_index f) k xs h.1)
row-all P Q f v g k r xs h = all-map P Q (written_operand f v) (g v) xs h

pub row-fits : (f : Form) (r : Row) (v : ℕ) (xs : List Operand) → AllByRecursion FitsOperand xs → AllByRecursion FitsOperand (written_operands f r v xs)
row-fits f r v xs h = row-all FitsOperand FitsOperand f v (operand-fits f) (index-fits f) r xs h
