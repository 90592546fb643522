-- The number of an outcome has the bits of its statement's result. So each needed statement can be evaluated after those below it.
use Rattle.std.proofs.Common.{◌≡◌, ℕ, zero, suc, ◌^◌, ◌<◌, ◌≤◌, List, [], ◌∷◌, Option, Some, slice_get, refl, sym, subst, arith, inl, inr}
use Rattle.std.specs.List.{AllByRecursion}
use Rattle.std.proofs.lemmas.Nat.{pow_pos}
use Rattle.souper_graph.specs.declared.ast.operands.Operand.{Operand}
use Rattle.souper_graph.specs.declared.ast.operands.Operand.TheVariants.{Value, Constant}
use Rattle.souper_graph.specs.declared.ast.instructions.Instruction.{Instruction}
use Rattle.souper_graph.specs.declared.ast.instructions.Instruction.TheVariants.{Freeze, Hole}
use Rattle.souper_graph.specs.Instructions.{operands_of}
use Rattle.souper_graph.specs.Values.{PlainRhs, var, block, phi, reserved_inst, reserved_const, instruction, PlainStatement, assigned, condition, block_condition, Item}
use Rattle.souper_graph.specs.Uses.{Has, Use, value_use, uses_of_operands, uses_of_rhs, uses_of, uses_of_optional, NeededIn}
use Rattle.souper_graph.specs.WellFormed.{WellFormed}
use Rattle.souper_graph.proofs.Judging.Needed.{statement_at, well_formed_stands, use-needed}
use Rattle.souper_widths.specs.Maps.{WidthMap, result_width, operand_width}
use Rattle.souper_widths.specs.Equations.{operands_at}
use Rattle.souper_widths.specs.Table.{instruction_row, rhs_row, operands_of_rhs, row_operands}
use Rattle.souper_widths.specs.Shape.{HasPart}
use Rattle.souper_widths.specs.Limits.{HasBytePairs, OnInstruction}
use Rattle.souper_widths.specs.Typed.{Typed}
use Rattle.souper_words.specs.declared.outcome.Outcome.{Outcome}
use Rattle.souper_words.specs.declared.outcome.Outcome.TheVariants.{Number, Poison, Undefined}
use Rattle.souper_words.specs.Outcomes.{number_or}
use Rattle.souper_meaning.specs.Worlds.{World, value_at, predecessor_at, choice_at, poison_inputs, IsNumberBelow, IsInput, GivesInstruction, GivesRhs, GivesStatement, IsWorld}
use Rattle.souper_meaning.specs.Instructions.{meaning_of, instruction_outcome}
use Rattle.souper_meaning.specs.Statements.{executed_outcome, rhs_outcome, statement_outcome, outcome_in, out, AreOutcomesBelow}
use Rattle.souper_meaning.specs.Sound.{IsHoleRhs, IsHole}
use Rattle.souper_meaning.specs.Evaluable.{IsNarrowAt, IsEvaluable, IsReady, IsReadyRhs, IsReadyStatement}
use Rattle.souper_meaning.proofs.OperandBits.{executed_below, word_below}
use Rattle.souper_meaning.proofs.Rows.{HoldsRow, HoldsPairs, IsTypedAt, typed_at, FitsValue, values_below, operands_least, result_least, word_allows, instruction_values}
use Rattle.souper_meaning.proofs.ByPosition.{by_statement}

-- the values that a statement computes with
abbrev FitStatement : WidthMap → (ℕ → Outcome) → PlainStatement → Type 0
FitStatement m at (assigned a) = AllByRecursion (FitsValue m at) (operands_of_rhs a.value)
FitStatement m at (condition c) = Unit {0}
FitStatement m at (block_condition c) = Unit {0}

pub input_below : (w : ℕ) (o : Outcome) → IsInput poison_inputs w o → number_or 0 o < 2 ^ w
input_below w (Number k) h = h
input_below w Poison h = pow_pos w
input_below w Undefined h = absurd h

pub constant_below : (w : ℕ) (o : Outcome) → IsNumberBelow (2 ^ w) o → number_or 0 o < 2 ^ w
constant_below w (Number k) h = h
constant_below w Poison h = absurd h
constant_below w Undefined h = absurd h

module _ (m : WidthMap) (x : World) (at : ℕ → Outcome) (p : ℕ) where
  instruction_below : (i : Instruction) → GivesInstruction (result_width m p) x p i → HasPart (instruction_row i) → HoldsRow m p (instruction_row i) → HoldsPairs m (row_operands p (instruction_row i) (operands_of i))
      → HasBytePairs (result_width m p) i → AllByRecursion (FitsValue m at) (operands_of i)
      → number_or 0 (instruction_outcome (result_width m p) (operand_width m p) (choice_at x p) at i) < 2 ^ result_width m p
  instruction_below Hole g q r k b f = pow_pos (result_width m p)
  instruction_below (Freeze a) g q r k b f =
      let l : 1 ≤ operand_width m p = operands_least m p (Freeze a) (λ h. h) q k in
      word_below (meaning_of (Freeze a)) (result_width m p) (operand_width m p) (choice_at x p) at (a ∷ []) (word_allows m p (Freeze a) r b) g l (instruction_values m p at (Freeze a) q l k f)
  instruction_below i g q r k b f =
      let l : 1 ≤ operand_width m p = operands_least m p i (λ h. h) q k in
      word_below (meaning_of i) (result_width m p) (operand_width m p) 0 at (operands_of i) (word_allows m p i r b) (pow_pos (result_width m p)) l (instruction_values m p at i q l k f)

  rhs_below : (y : PlainRhs) → GivesRhs poison_inputs (result_width m p) x p y → HasPart (rhs_row y) → HoldsRow m p (rhs_row y) → HoldsPairs m (row_operands p (rhs_row y) (operands_of_rhs y))
      → OnInstruction (HasBytePairs (result_width m p)) y → AllByRecursion (FitsValue m at) (operands_of_rhs y)
      → number_or 0 (rhs_outcome (result_width m p) (operand_width m p) x p at y) < 2 ^ result_width m p
  rhs_below var g q r k b f = input_below (result_width m p) (value_at x p) g
  rhs_below reserved_inst g q r k b f = input_below (result_width m p) (value_at x p) g
  rhs_below reserved_const g q r k b f = constant_below (result_width m p) (value_at x p) g
  rhs_below (block c) g q r k b f = pow_pos (result_width m p)
  rhs_below (phi c) g q r k b f =
      let e : result_width m p ≡ operand_width m p = r.0 in
      let o : Outcome = executed_outcome at (operand_width m p) (slice_get c.values (predecessor_at x c.block)) in
      let l : number_or 0 o < 2 ^ operand_width m p = executed_below at (operand_width m p) c.values (predecessor_at x c.block) (values_below m at (operands_at p) (operand_width m p) c.values (omega arith) k f) in
      subst (λ (n : ℕ). number_or 0 o < 2 ^ n) (sym e) l
  rhs_below (instruction i) g q r k b f = instruction_below i g q r k b f

  statement_below : (s : PlainStatement) → GivesStatement poison_inputs (result_width m p) x p (Some s) → IsTypedAt m p s → FitStatement m at s → number_or 0 (statement_outcome m x p at s) < 2 ^ result_width m p
  statement_below (assigned a) g t f = rhs_below a.value g t.part t.row t.pairs t.bytes f
  statement_below (condition c) g t f = pow_pos (result_width m p)
  statement_below (block_condition c) g t f = pow_pos (result_width m p)

-- what can be evaluated

module _ (m : WidthMap) (at : ℕ → Outcome) (p : ℕ) where
  ready_instruction : (i : Instruction) → ¬ IsHoleRhs (instruction i) → IsNarrowAt m p → HasPart (instruction_row i) → HoldsRow m p (instruction_row i) → HoldsPairs m (row_operands p (instruction_row i) (operands_of i))
      → HasBytePairs (result_width m p) i → AllByRecursion (FitsValue m at) (operands_of i) → IsReady (result_width m p) (operand_width m p) at i
  ready_instruction i o n q r k b f =
      let l : 1 ≤ operand_width m p = operands_least m p i o q k in
      record {
        result_low = result_least m p i q r l;
        result_high = n.0;
        low = l;
        high = n.1;
        allowed = word_allows m p i r b;
        below = instruction_values m p at i q l k f;
      }

  ready_rhs : (y : PlainRhs) → ¬ IsHoleRhs y → IsNarrowAt m p → HasPart (rhs_row y) → HoldsRow m p (rhs_row y) → HoldsPairs m (row_operands p (rhs_row y) (operands_of_rhs y))
      → OnInstruction (HasBytePairs (result_width m p)) y → AllByRecursion (FitsValue m at) (operands_of_rhs y) → IsReadyRhs (result_width m p) (operand_width m p) at y
  ready_rhs var o n q r k b f = tt
  ready_rhs (block c) o n q r k b f = tt
  ready_rhs (phi c) o n q r k b f = (omega (arith, r.0, r.1.0), n.1)
  ready_rhs reserved_inst o n q r k b f = tt
  ready_rhs reserved_const o n q r k b f = tt
  ready_rhs (instruction i) o n q r k b f = ready_instruction i o n q r k b f

  ready_statement : (s : PlainStatement) → ¬ IsHole (Some s) → IsNarrowAt m p → IsTypedAt m p s → FitStatement m at s → IsReadyStatement (result_width m p) (operand_width m p) at s
  ready_statement (assigned a) o n t f = ready_rhs a.value o n t.part t.row t.pairs t.bytes f
  ready_statement (condition c) o n t f = tt
  ready_statement (block_condition c) o n t f = tt

-- values among operands are used

values_fit : (m : WidthMap) (at : ℕ → Outcome) (xs : List Operand) → ((i : ℕ) → Has (uses_of_operands xs) (value_use i) → number_or 0 (at i) < 2 ^ result_width m i) → AllByRecursion (FitsValue m at) xs
values_fit m at [] h = tt
values_fit m at (Value i ∷ xs) h = (h i (inl refl), values_fit m at xs (λ j k. h j (inr k)))
values_fit m at (Constant c ∷ xs) h = (tt, values_fit m at xs h)

rhs_used : (y : PlainRhs) (u : Use) → Has (uses_of_operands (operands_of_rhs y)) u → Has (uses_of_rhs y) u
rhs_used var u h = h
rhs_used (block b) u h = h
rhs_used (phi f) u h = inr h
rhs_used reserved_inst u h = h
rhs_used reserved_const u h = h
rhs_used (instruction i) u h = h

statement_fits : (m : WidthMap) (at : ℕ → Outcome) (s : PlainStatement) → ((i : ℕ) → Has (uses_of s) (value_use i) → number_or 0 (at i) < 2 ^ result_width m i) → FitStatement m at s
statement_fits m at (assigned a) h = values_fit m at (operands_of_rhs a.value) (λ i k. h i (rhs_used a.value (value_use i) k))
statement_fits m at (condition c) h = tt
statement_fits m at (block_condition c) h = tt

used_at_position : (a : Item) (p : ℕ) (s : PlainStatement) (u : Use) → slice_get a.statements p ≡ Some s → Has (uses_of s) u → Has (uses_of_optional (slice_get a.statements p)) u
used_at_position a p s u e h = subst (λ (o : Option PlainStatement). Has (uses_of_optional o) u) (sym e) h

module _ (a : Item) (m : WidthMap) (x : World) (wf : WellFormed a) (t : Typed a m) (w : IsWorld poison_inputs a m x) where
  given : (p : ℕ) (s : PlainStatement) → NeededIn a p → slice_get a.statements p ≡ Some s → GivesStatement poison_inputs (result_width m p) x p (Some s)
  given p s n e = subst (λ (o : Option PlainStatement). GivesStatement poison_inputs (result_width m p) x p o) e (w p n)

  step_at : (p : ℕ) (s : PlainStatement) → NeededIn a p → slice_get a.statements p ≡ Some s → ((i : ℕ) → i < p → NeededIn a i → number_or 0 (out a m x i) < 2 ^ result_width m i) → number_or 0 (out a m x p) < 2 ^ result_width m p
  step_at p s d e before =
      subst (λ (o : Outcome). number_or 0 o < 2 ^ result_width m p) (sym (by_statement a m x wf p s d e))
      (statement_below m x (out a m x) p s (given p s d e) (typed_at a m p s t d e)
      (statement_fits m (out a m x) s (λ i k. before i ((wf.closed p s d e).below (value_use i) k) (use-needed a p (value_use i) d (used_at_position a p s (value_use i) e k)))))

  step : (p : ℕ) → NeededIn a p → ((i : ℕ) → i < p → NeededIn a i → number_or 0 (out a m x i) < 2 ^ result_width m i) → number_or 0 (out a m x p) < 2 ^ result_width m p
  step p d before = step_at p (statement_at a.statements p) d (well_formed_stands a wf p d) before

  below_to : (n p : ℕ) → p < n → NeededIn a p → number_or 0 (out a m x p) < 2 ^ result_width m p
  below_to zero p l d = absurd (omega arith)
  below_to (suc n) p l d = step p d (λ i k e. below_to n i (omega arith) e)

  pub out_below : (p : ℕ) → NeededIn a p → number_or 0 (out a m x p) < 2 ^ result_width m p
  out_below p d = below_to (suc p) p (omega arith) d

  pub statement_ready : (os : List Outcome) (p : ℕ) (s : PlainStatement) → IsEvaluable a m → NeededIn a p → slice_get a.statements p ≡ Some s → AreOutcomesBelow a m x os p
      → IsReadyStatement (result_width m p) (operand_width m p) (outcome_in os) s
  statement_ready os p s v d e before =
      ready_statement m (outcome_in os) p s (subst (λ (o : Option PlainStatement). ¬ IsHole o) e (v.meaning p d)) (v.narrow p d) (typed_at a m p s t d e)
      (statement_fits m (outcome_in os) s (λ i k.
      let n : NeededIn a i = use-needed a p (value_use i) d (used_at_position a p s (value_use i) e k) in
      subst (λ (o : Outcome). number_or 0 o < 2 ^ result_width m i) (sym (before i n ((wf.closed p s d e).below (value_use i) k))) (out_below i n)))
