-- The ties of a last line, and the classes after it.
use Rattle.std.proofs.Common.{◌≡◌, ℕ, ◌*◌, ◌-◌, List, [], ◌∷◌, ◌++◌, length, Option, Some, None, refl, sym, ap, subst, ◌∙◌, arith}
use Rattle.std.specs.Prelude.{flat_map}
use Rattle.std.specs.List.{AllByRecursion}
use Rattle.std.proofs.lemmas.List.{append-nil}
use Rattle.std.proofs.lemmas.List.Concat.{flat_map-append}
use Rattle.souper_graph.specs.declared.ast.operands.«Type».{«Type» as Ty}
use Rattle.souper_graph.specs.declared.ast.operands.Operand.{Operand}
use Rattle.souper_graph.specs.declared.ast.operands.Operand.TheVariants.{Value, Constant}
use Rattle.souper_graph.specs.declared.ast.flaws.FlawLocation.{FlawLocation}
use Rattle.souper_graph.specs.declared.ast.flaws.FlawLocation.TheVariants.{Statement, Infer, Result, Cand}
use Rattle.souper_graph.specs.Values.{Item}
use Rattle.souper_graph.specs.WellFormed.{WellFormed}
use Rattle.souper_graph.specs.Flaws.{line_operands}
use Rattle.souper_widths.specs.declared.rows.Row.TheVariants.{Condition}
use Rattle.souper_widths.specs.declared.ties.Side.TheVariants.{Node, Number}
use Rattle.souper_widths.specs.declared.ties.Tie.{Tie}
use Rattle.souper_widths.specs.Equations.{of_root, constant_equations, operand_equations}
use Rattle.souper_widths.specs.Table.{each_with}
use Rattle.souper_widths.specs.Places.{IsPlace}
use Rattle.souper_widths.specs.Flaws.{IsNarrowPair}
use Rattle.souper_widths.specs.Lines.{IsLine}
use Rattle.souper_widths.specs.Ties.{tie_between, ties_of, operand_tie, type_tie, IsOperandBelow, AreTied, AddsTies}
use Rattle.souper_widths.specs.Nodes.{ties_at, ClassesOf}
use Rattle.souper_widths.proofs.MetOperands.{infer-met, result-met, cand-met}
use Rattle.souper_widths.proofs.Sides.{operands-are_below}

root-constant : (c : ℕ) (t : Option Ty) → flat_map (ties_of c Condition) (constant_equations t of_root) ≡ type_tie t (Node (2 * c)) 0
root-constant c None = refl
root-constant c (Some t) = append-nil (tie_between (Number (t.width - 0)) (Node (2 * c)) 0)

root-operand : (c : ℕ) (x : Operand) → flat_map (ties_of c Condition) (operand_equations (x, of_root)) ≡ operand_tie x (Node (2 * c)) 0
root-operand c (Value i) = append-nil (tie_between (Node (2 * i)) (Node (2 * c)) 0)
root-operand c (Constant k) = root-constant c k.ty

-- the ties of the operands of a last line
pub root-ties : (c : ℕ) (xs : List Operand) → flat_map (ties_of c Condition) (flat_map operand_equations (each_with of_root xs)) ≡ flat_map (λ x. operand_tie x (Node (2 * c)) 0) xs
root-ties c [] = refl
root-ties c (x ∷ xs) =
    flat_map-append (ties_of c Condition) (operand_equations (x, of_root)) (flat_map operand_equations (each_with of_root xs))
    ∙ ap (λ (z : List Tie). z ++ flat_map (ties_of c Condition) (flat_map operand_equations (each_with of_root xs))) (root-operand c x)
    ∙ ap (λ (z : List Tie). operand_tie x (Node (2 * c)) 0 ++ z) (root-ties c xs)

-- classes with the ties of one location more, in the words of the locations that are done then
pub classes-with : (a : Item) (Done Then : FlawLocation → Type 0) (l : FlawLocation) (ps ns qs ms : List ℕ) → ((k : FlawLocation) → Done k → IsPlace a k → Then k) → Then l
    → ((P : FlawLocation → Type 0) → ((k : FlawLocation) → Done k → IsPlace a k → P k) → P l → (k : FlawLocation) → Then k → IsPlace a k → P k)
    → ClassesOf a Done ps ns → IsPlace a l → ¬ IsNarrowPair a l → AddsTies ps ns qs ms (ties_at a l) → ClassesOf a Then qs ms
classes-with a Done Then l ps ns qs ms into last out c place wide added = record {
  to = λ u h. added.to u (c.to u (λ k d p. h k (into k d p) p)) (h l last place);
  back = λ u s. out (λ k. AreTied u (ties_at a k)) (λ k d p. c.back u (added.back u s) k d p) (added.tied u s);
  wide = out (λ k. ¬ IsNarrowPair a k) (λ k d p. c.wide k d p) wide;
}

-- the ties of a last line are those of its operands, which are nodes below the count, and no last line has a pair of one bit
pub line-ties : (a : Item) (l : FlawLocation) (xs : List Operand) → IsLine l → xs ≡ line_operands l a.ending → ties_at a l ≡ flat_map (λ x. operand_tie x (Node (2 * length a.statements)) 0) xs
line-ties a (Statement p) xs k e = absurd k
line-ties a Infer xs k e = root-ties (length a.statements) (line_operands Infer a.ending) ∙ ap (λ (z : List Operand). flat_map (λ (x : Operand). operand_tie x (Node (2 * length a.statements)) 0) z) (sym e)
line-ties a Result xs k e = root-ties (length a.statements) (line_operands Result a.ending) ∙ ap (λ (z : List Operand). flat_map (λ (x : Operand). operand_tie x (Node (2 * length a.statements)) 0) z) (sym e)
line-ties a Cand xs k e = root-ties (length a.statements) (line_operands Cand a.ending) ∙ ap (λ (z : List Operand). flat_map (λ (x : Operand). operand_tie x (Node (2 * length a.statements)) 0) z) (sym e)

pub line-is_below : (a : Item) (l : FlawLocation) (xs : List Operand) → WellFormed a → IsLine l → xs ≡ line_operands l a.ending → AllByRecursion (IsOperandBelow (length a.statements)) xs
line-is_below a (Statement p) xs w k e = absurd k
line-is_below a Infer xs w k e = subst (AllByRecursion (IsOperandBelow (length a.statements))) (sym e) (operands-are_below a (length a.statements) (length a.statements) (line_operands Infer a.ending) (omega arith) (infer-met a w))
line-is_below a Result xs w k e = subst (AllByRecursion (IsOperandBelow (length a.statements))) (sym e) (operands-are_below a (length a.statements) (length a.statements) (line_operands Result a.ending) (omega arith) (result-met a w))
line-is_below a Cand xs w k e = subst (AllByRecursion (IsOperandBelow (length a.statements))) (sym e) (operands-are_below a (length a.statements) (length a.statements) (line_operands Cand a.ending) (omega arith) (cand-met a w))

pub line-is_wide : (a : Item) (l : FlawLocation) → IsLine l → ¬ IsNarrowPair a l
line-is_wide a (Statement p) k = absurd k
line-is_wide a Infer k = λ b. b
line-is_wide a Result k = λ b. b
line-is_wide a Cand k = λ b. b
