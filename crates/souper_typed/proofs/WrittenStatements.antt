-- Statements with their types: what stays, and that they are valid.
use Rattle.std.proofs.Common.{◌≡◌, ℕ, ◌+◌, List, [], ◌∷◌, ◌++◌, Bool, true, false, map, length, Option, Some, None, refl, sym, ap, subst, ◌∙◌}
use Rattle.std.specs.Prelude.{if◌then◌else◌}
use Rattle.std.specs.List.{AllByRecursion}
use Rattle.std.proofs.lemmas.List.{length-map}
use Rattle.souper_graph.specs.declared.ast.operands.Operand.{Operand}
use Rattle.souper_graph.specs.declared.ast.instructions.Instruction.{Instruction}
use Rattle.souper_graph.specs.Instructions.{operands_of}
use Rattle.souper_graph.specs.Values.{PlainAttribute, known_bits, range, PlainRhs, var, block, phi, instruction, PlainStatement, assigned, condition, block_condition, Ending, inferred, resulting, replaced, candidate}
use Rattle.souper_graph.specs.Uses.{Use, value_use, block_use, uses_of_operand, uses_of_operands, uses_of_rhs, uses_of, is_condition, first_roots, last_roots}
use Rattle.souper_graph.specs.WellFormed.{IsAssigned, IsBlockRhs, IsBlock, FitsOperand, FitsAttribute, FitsRhs, FitsStatement, FitsEnding, predecessors_of_rhs, predecessors_of}
use Rattle.souper_graph.specs.Judging.{assigned_name}
use Rattle.souper_widths.specs.Table.{rhs_row, row_of, instruction_row, operands_of_rhs, operands_in}
use Rattle.souper_typed.specs.declared.form.Form.{Form}
use Rattle.souper_typed.specs.Numbers.{type_of, written_number}
use Rattle.souper_typed.specs.Written.{written_operand, written_rhs, written_attribute, written_statement, has_none, written_with, written_ending}
use Rattle.souper_typed.proofs.WrittenNumbers.{type-fits, number-signed, number-again}
use Rattle.souper_typed.proofs.Lists.{map-again, all-map}
use Rattle.souper_typed.proofs.WrittenOperands.{operand-uses, operand-fits, operand-again, written_operands, instruction-operands, instruction-row, instruction-again, each-uses, row-uses, row-fits}

rhs-row_is : (f : Form) (v : ℕ) (x : PlainRhs) → rhs_row (written_rhs f v x) ≡ rhs_row x
rhs-row_is f v (instruction i) = instruction-row f v i
rhs-row_is f v x = refl

pub row-is : (f : Form) (w v : ℕ) (s : PlainStatement) → row_of (written_statement f w v s) ≡ row_of s
row-is f w v (assigned a) = rhs-row_is f v a.value
row-is f w v (condition c) = refl
row-is f w v (block_condition c) = refl

rhs-operands : (f : Form) (v : ℕ) (x : PlainRhs) → operands_of_rhs (written_rhs f v x) ≡ written_operands f (rhs_row x) v (operands_of_rhs x)
rhs-operands f v (instruction i) = instruction-operands f v i
rhs-operands f v x = refl

pub operands-are : (f : Form) (w v : ℕ) (s : PlainStatement) → operands_in (written_statement f w v s) ≡ written_operands f (row_of s) v (operands_in s)
operands-are f w v (assigned a) = rhs-operands f v a.value
operands-are f w v (condition c) = refl
operands-are f w v (block_condition c) = refl

two-uses : (f : Form) (v : ℕ) (x y : Operand) → uses_of_operand (written_operand f v x) ++ uses_of_operand (written_operand f v y) ≡ uses_of_operand x ++ uses_of_operand y
two-uses f v x y = ap (λ (z : List Use). z ++ uses_of_operand (written_operand f v y)) (operand-uses f v x) ∙ ap (λ (z : List Use). uses_of_operand x ++ z) (operand-uses f v y)

rhs-uses : (f : Form) (v : ℕ) (x : PlainRhs) → uses_of_rhs (written_rhs f v x) ≡ uses_of_rhs x
rhs-uses f v (phi p) = ap (λ (z : List Use). block_use p.block ∷ z) (each-uses f v p.values)
rhs-uses f v (instruction i) = ap uses_of_operands (instruction-operands f v i) ∙ row-uses f (instruction_row i) v (operands_of i)
rhs-uses f v x = refl

pub uses-are : (f : Form) (w v : ℕ) (s : PlainStatement) → uses_of (written_statement f w v s) ≡ uses_of s
uses-are f w v (assigned a) = rhs-uses f v a.value
uses-are f w v (condition c) = two-uses f v c.x c.y
uses-are f w v (block_condition c) = ap (λ (z : List Use). block_use c.block ∷ z) (two-uses f v c.x c.y)

-- the statements have the same uses, name, and kind
pub record Alike (s t : PlainStatement) : Type 0 where
  pub uses : uses_of t ≡ uses_of s
  pub conditional : is_condition t ≡ is_condition s
  pub named : assigned_name (Some t) ≡ assigned_name (Some s)
  pub counted : predecessors_of (Some t) ≡ predecessors_of (Some s)
  pub is_assigned : IsAssigned (Some s) → IsAssigned (Some t)
  pub block_to : IsBlock (Some s) → IsBlock (Some t)
  pub block_from : IsBlock (Some t) → IsBlock (Some s)
  pub row : row_of t ≡ row_of s

alike-self : (s : PlainStatement) → Alike s s
alike-self s = record { uses = refl; conditional = refl; named = refl; counted = refl; is_assigned = λ h. h; block_to = λ h. h; block_from = λ h. h; row = refl }

rhs-count : (f : Form) (v : ℕ) (x : PlainRhs) → predecessors_of_rhs (written_rhs f v x) ≡ predecessors_of_rhs x
rhs-count f v (block b) = refl
rhs-count f v x = refl

rhs-block : (f : Form) (v : ℕ) (x : PlainRhs) → IsBlockRhs x → IsBlockRhs (written_rhs f v x)
rhs-block f v (block b) h = h
rhs-block f v x h = h

rhs-was_block : (f : Form) (v : ℕ) (x : PlainRhs) → IsBlockRhs (written_rhs f v x) → IsBlockRhs x
rhs-was_block f v (block b) h = h
rhs-was_block f v x h = h

alike-written : (f : Form) (w v : ℕ) (s : PlainStatement) → Alike s (written_statement f w v s)
alike-written f w v (assigned a) = record {
  uses = uses-are f w v (assigned a);
  conditional = refl;
  named = refl;
  counted = rhs-count f v a.value;
  is_assigned = λ h. h;
  block_to = rhs-block f v a.value;
  block_from = rhs-was_block f v a.value;
  row = row-is f w v (assigned a);
}
alike-written f w v (condition c) = record {
  uses = uses-are f w v (condition c);
  conditional = refl;
  named = refl;
  counted = refl;
  is_assigned = λ h. h;
  block_to = λ h. h;
  block_from = λ h. h;
  row = refl;
}
alike-written f w v (block_condition c) = record {
  uses = uses-are f w v (block_condition c);
  conditional = refl;
  named = refl;
  counted = refl;
  is_assigned = λ h. h;
  block_to = λ h. h;
  block_from = λ h. h;
  row = refl;
}

pub either : (P : PlainStatement → Type 0) (b : Bool) (s t : PlainStatement) → P s → P t → P (if b then s else t)
either P true s t p q = p
either P false s t p q = q

pub alike-with : (f : Form) (w v : ℕ) (s : PlainStatement) → Alike s (written_with f w v s)
alike-with f w v s = either (Alike s) (has_none w v) s (written_statement f w v s) (alike-self s) (alike-written f w v s)

-- a statement that is valid by itself stays so
rhs-fits : (f : Form) (v : ℕ) (x : PlainRhs) → FitsRhs x → FitsRhs (written_rhs f v x)
rhs-fits f v (phi p) h = all-map FitsOperand FitsOperand (written_operand f v) (operand-fits f v) p.values h
rhs-fits f v (instruction i) h = subst (AllByRecursion FitsOperand) (sym (instruction-operands f v i)) (row-fits f (instruction_row i) v (operands_of i) h)
rhs-fits f v x h = h

attribute-fits : (f : Form) (w : ℕ) (x : PlainAttribute) → FitsAttribute x → FitsAttribute (written_attribute f w x)
attribute-fits f w (range low high) h = (number-signed f w low h.0, number-signed f w high h.1)
attribute-fits f w x h = h

written-fits : (f : Form) (w v : ℕ) (s : PlainStatement) → FitsStatement s → FitsStatement (written_statement f w v s)
written-fits f w v (assigned a) h = record {
  name_fits = h.name_fits;
  type_fits = type-fits w;
  value_fits = rhs-fits f v a.value h.value_fits;
  attributes_fit = all-map FitsAttribute FitsAttribute (written_attribute f w) (attribute-fits f w) a.attributes h.attributes_fit;
}
written-fits f w v (condition c) h = (operand-fits f v c.x h.0, operand-fits f v c.y h.1)
written-fits f w v (block_condition c) h = (h.0, operand-fits f v c.x h.1, operand-fits f v c.y h.2)

pub with-fits : (f : Form) (w v : ℕ) (s : PlainStatement) → FitsStatement s → FitsStatement (written_with f w v s)
with-fits f w v s h = either FitsStatement (has_none w v) s (written_statement f w v s) h (written-fits f w v s h)

-- what is written stays
rhs-again : (f : Form) (v : ℕ) (x : PlainRhs) → written_rhs f v (written_rhs f v x) ≡ written_rhs f v x
rhs-again f v (phi p) = ap (λ (z : List Operand). phi (record { block = p.block; values = z })) (map-again (written_operand f v) (operand-again f v) p.values)
rhs-again f v (instruction i) = ap instruction (instruction-again f v i)
rhs-again f v x = refl

attribute-again : (f : Form) (w : ℕ) (x : PlainAttribute) → written_attribute f w (written_attribute f w x) ≡ written_attribute f w x
attribute-again f w (range low high) = ap (λ z. range z (written_number f w (written_number f w high))) (number-again f w low) ∙ ap (λ z. range (written_number f w low) z) (number-again f w high)
attribute-again f w x = refl

written-again : (f : Form) (w v : ℕ) (s : PlainStatement) → written_statement f w v (written_statement f w v s) ≡ written_statement f w v s
written-again f w v (assigned a) =
    let t = written_attribute f w in
    ap (λ (z : PlainRhs). assigned (record { name = a.name; ty = type_of w; value = z; attributes = map t (map t a.attributes) })) (rhs-again f v a.value)
    ∙ ap (λ (z : List PlainAttribute). assigned (record { name = a.name; ty = type_of w; value = written_rhs f v a.value; attributes = z })) (map-again t (attribute-again f w) a.attributes)
written-again f w v (condition c) =
    ap (λ (z : Operand). condition (record { x = z; y = written_operand f v (written_operand f v c.y) })) (operand-again f v c.x)
    ∙ ap (λ (z : Operand). condition (record { x = written_operand f v c.x; y = z })) (operand-again f v c.y)
written-again f w v (block_condition c) =
    ap (λ (z : Operand). block_condition (record { block = c.block; predecessor = c.predecessor; x = z; y = written_operand f v (written_operand f v c.y) })) (operand-again f v c.x)
    ∙ ap (λ (z : Operand). block_condition (record { block = c.block; predecessor = c.predecessor; x = written_operand f v c.x; y = z })) (operand-again f v c.y)

again-by : (g : PlainStatement → PlainStatement) (b : Bool) (s : PlainStatement) → g (g s) ≡ g s → (if b then (if b then s else g s) else g (if b then s else g s)) ≡ (if b then s else g s)
again-by g true s e = refl
again-by g false s e = e

pub with-again : (f : Form) (w v : ℕ) (s : PlainStatement) → written_with f w v (written_with f w v s) ≡ written_with f w v s
with-again f w v s = again-by (written_statement f w v) (has_none w v) s (written-again f w v s)

-- the last lines
pub ending-again : (f : Form) (n : ℕ) (e : Ending) → written_ending f n (written_ending f n e) ≡ written_ending f n e
ending-again f n (inferred i) = refl
ending-again f n (resulting x) = ap resulting (operand-again f n x)
ending-again f n (replaced i x) = ap (replaced i) (operand-again f n x)
ending-again f n (candidate c) =
    ap (λ (z : Operand). candidate (record { lhs = z; rhs = written_operand f n (written_operand f n c.rhs); attributes = c.attributes })) (operand-again f n c.lhs)
    ∙ ap (λ (z : Operand). candidate (record { lhs = written_operand f n c.lhs; rhs = z; attributes = c.attributes })) (operand-again f n c.rhs)

pub first-roots_are : (f : Form) (n : ℕ) (e : Ending) → first_roots (written_ending f n e) ≡ first_roots e
first-roots_are f n (inferred i) = refl
first-roots_are f n (resulting x) = operand-uses f n x
first-roots_are f n (replaced i x) = refl
first-roots_are f n (candidate c) = two-uses f n c.lhs c.rhs

pub last-roots_are : (f : Form) (n : ℕ) (e : Ending) → last_roots (written_ending f n e) ≡ last_roots e
last-roots_are f n (replaced i x) = operand-uses f n x
last-roots_are f n e = refl

pub ending-fits : (f : Form) (n : ℕ) (e : Ending) → FitsEnding e → FitsEnding (written_ending f n e)
ending-fits f n (inferred i) h = h
ending-fits f n (resulting x) h = operand-fits f n x h
ending-fits f n (replaced i x) h = (h.0, operand-fits f n x h.1)
ending-fits f n (candidate c) h = (operand-fits f n c.lhs h.0, operand-fits f n c.rhs h.1, h.2)
