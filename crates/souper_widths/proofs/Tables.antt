-- The ties of operands are those of their equations.
use Rattle.std.proofs.Common.{◌≡◌, ℕ, ◌+◌, ◌*◌, ◌-◌, List, [], ◌∷◌, ◌++◌, Some, None, refl, sym, ap, subst, ◌∙◌, ◌≢◌}
use Rattle.std.specs.Prelude.{flat_map}
use Rattle.std.proofs.lemmas.List.{append-nil}
use Rattle.std.proofs.lemmas.List.Concat.{flat_map-append}
use Rattle.souper_graph.specs.declared.ast.operands.Operand.{Operand}
use Rattle.souper_graph.specs.declared.ast.operands.Operand.TheVariants.{Value, Constant}
use Rattle.souper_graph.specs.declared.ast.operands.«Type».{«Type» as Ty}
use Rattle.std.specs.Prelude.{Option}
use Rattle.souper_widths.specs.declared.rows.Row.{Row}
use Rattle.souper_widths.specs.declared.rows.Row.TheVariants.{Input, Block, Phi, Same, Bit, Resized, Select, Pair, Number as number_row, Overflow, BadPart, Condition}
use Rattle.souper_widths.specs.declared.ties.Side.TheVariants.{Node, Number}
use Rattle.souper_widths.specs.declared.ties.Tie.{Tie}
use Rattle.souper_widths.specs.Equations.{operands_at, bits, operand_equations, constant_equations}
use Rattle.souper_widths.specs.Table.{each_with, row_operands}
use Rattle.souper_widths.specs.Ties.{operands_more, tie_between, ties_of, operand_tie, type_tie}

constant-is : (r : Row) (t : Option Ty) (p : ℕ) → flat_map (ties_of 0 r) (constant_equations t (operands_at p)) ≡ type_tie t (Node (2 * p + 1)) (operands_more r)
constant-is r None p = refl
constant-is r (Some t) p = append-nil (tie_between (Number (t.width - operands_more r)) (Node (2 * p + 1)) (operands_more r))

-- an operand as wide as the others
pub operand-is : (r : Row) (x : Operand) (p : ℕ) → flat_map (ties_of 0 r) (operand_equations (x, operands_at p)) ≡ operand_tie x (Node (2 * p + 1)) (operands_more r)
operand-is r (Value i) p = append-nil (tie_between (Node (2 * i)) (Node (2 * p + 1)) (operands_more r))
operand-is r (Constant c) p = constant-is r c.ty p

bit-is : (t : Option Ty) → flat_map (ties_of 0 Select) (constant_equations t (bits 1)) ≡ type_tie t (Number 1) 0
bit-is None = refl
bit-is (Some t) = append-nil (tie_between (Number (t.width - 0)) (Number 1) 0)

-- the condition of a select
pub condition-is : (x : Operand) → flat_map (ties_of 0 Select) (operand_equations (x, bits 1)) ≡ operand_tie x (Number 1) 0
condition-is (Value i) = append-nil (tie_between (Node (2 * i)) (Number 1) 0)
condition-is (Constant c) = bit-is c.ty

pub operands-are : (r : Row) (xs : List Operand) (p : ℕ) → flat_map (ties_of 0 r) (flat_map operand_equations (each_with (operands_at p) xs)) ≡ flat_map (λ x. operand_tie x (Node (2 * p + 1)) (operands_more r)) xs
operands-are r [] p = refl
operands-are r (x ∷ xs) p =
    flat_map-append (ties_of 0 r) (operand_equations (x, operands_at p)) (flat_map operand_equations (each_with (operands_at p) xs))
    ∙ ap (λ (z : List Tie). z ++ flat_map (ties_of 0 r) (flat_map operand_equations (each_with (operands_at p) xs))) (operand-is r x p)
    ∙ ap (λ (z : List Tie). operand_tie x (Node (2 * p + 1)) (operands_more r) ++ z) (operands-are r xs p)

-- the operands of a row without operands of another width
pub other-rows : (r : Row) → r ≢ Select → r ≢ number_row → r ≢ Overflow → r ≢ BadPart → (xs : List Operand) (p : ℕ)
    → flat_map (λ x. operand_tie x (Node (2 * p + 1)) 0) xs ≡ flat_map (ties_of 0 r) (flat_map operand_equations (row_operands p r xs))
other-rows Input a b c d xs p = sym (operands-are Input xs p)
other-rows Block a b c d xs p = sym (operands-are Block xs p)
other-rows Phi a b c d xs p = sym (operands-are Phi xs p)
other-rows Same a b c d xs p = sym (operands-are Same xs p)
other-rows Bit a b c d xs p = sym (operands-are Bit xs p)
other-rows Resized a b c d xs p = sym (operands-are Resized xs p)
other-rows Select a b c d xs p = absurd (a refl)
other-rows Pair a b c d xs p = sym (operands-are Pair xs p)
other-rows number_row a b c d xs p = absurd (b refl)
other-rows Overflow a b c d xs p = absurd (c refl)
other-rows BadPart a b c d xs p = absurd (d refl)
other-rows Condition a b c d xs p = sym (operands-are Condition xs p)

-- the operands of a select
pub select-row : (r : Row) → r ≡ Select → (x : Operand) (xs : List Operand) (p : ℕ)
    → operand_tie x (Number 1) 0 ++ flat_map (λ y. operand_tie y (Node (2 * p + 1)) 0) xs ≡ flat_map (ties_of 0 r) (flat_map operand_equations (row_operands p r (x ∷ xs)))
select-row r e x xs p = subst (λ (z : Row). operand_tie x (Number 1) 0 ++ flat_map (λ y. operand_tie y (Node (2 * p + 1)) 0) xs ≡ flat_map (ties_of 0 z) (flat_map operand_equations (row_operands p z (x ∷ xs)))) (sym e)
    (ap (λ (z : List Tie). z ++ flat_map (λ y. operand_tie y (Node (2 * p + 1)) 0) xs) (sym (condition-is x))
    ∙ ap (λ (z : List Tie). flat_map (ties_of 0 Select) (operand_equations (x, bits 1)) ++ z) (sym (operands-are Select xs p))
    ∙ sym (flat_map-append (ties_of 0 Select) (operand_equations (x, bits 1)) (flat_map operand_equations (each_with (operands_at p) xs))))
