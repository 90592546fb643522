-- Facts and conditions of a needed statement, as the code tests them.
use Rattle.std.proofs.Common.{◌≡◌, ◌↔◌, ℕ, ◌++◌, List, Option, Some, slice_get, refl, sym, subst, inl, inr}
use Rattle.souper_graph.specs.declared.ast.operands.Operand.{Operand}
use Rattle.souper_graph.specs.declared.ast.operands.Operand.TheVariants.{Value, Constant}
use Rattle.std.specs.List.{AllByRecursion}
use Rattle.souper_graph.specs.Values.{PlainAttribute, PlainRhs, var, block, phi, reserved_inst, reserved_const, instruction, PlainStatement, assigned, condition, block_condition, Item}
use Rattle.souper_graph.specs.Uses.{Has, value_use, uses_of_operand, uses_of, uses_of_optional, NeededIn}
use Rattle.souper_graph.proofs.Lists.{Has-left, Has-right}
use Rattle.souper_graph.proofs.Judging.Needed.{use-needed}
use Rattle.souper_widths.specs.Maps.{WidthMap, result_width, operand_width}
use Rattle.souper_widths.specs.Table.{rhs_row}
use Rattle.souper_widths.specs.Shape.{IsInput}
use Rattle.souper_widths.specs.Limits.{HasBitCount, HasSignBits}
use Rattle.souper_widths.specs.Typed.{Typed}
use Rattle.souper_words.specs.declared.outcome.Outcome.{Outcome}
use Rattle.souper_meaning.specs.Worlds.{World, value_at, poison_inputs, GivesRhs, GivesStatement, IsWorld}
use Rattle.souper_meaning.specs.Instructions.{operand_outcome}
use Rattle.souper_meaning.specs.Statements.{outcome_in, out, AreOutcomes}
use Rattle.souper_meaning.specs.Evaluable.{IsNarrowAt, IsEvaluable, AreTestable, IsTestableRhs, IsTestable}
use Rattle.souper_meaning.specs.Sound.{MeetsFacts, MeetsRhs, AreOneNumber, AreEqual, MeetsStatement, MeetsAt}
use Rattle.souper_meaning.proofs.Rows.{HoldsRow, IsTypedAt, typed_at, condition_least}
use Rattle.souper_meaning.proofs.Bounds.{input_below, constant_below}

-- what the code may test

testable_rhs : (m : WidthMap) (x : World) (p : ℕ) (fs : List PlainAttribute) (y : PlainRhs) → GivesRhs poison_inputs (result_width m p) x p y → HoldsRow m p (rhs_row y) → IsNarrowAt m p
    → AllByRecursion (HasBitCount (result_width m p)) fs → AllByRecursion (HasSignBits (result_width m p)) fs → IsTestableRhs (result_width m p) (value_at x p) fs y
testable_rhs m x p fs var g r n b c = record { low = r.0; high = n.0; fits = input_below (result_width m p) (value_at x p) g; bit_counts = b; sign_bits = c }
testable_rhs m x p fs reserved_inst g r n b c = record { low = r.0; high = n.0; fits = input_below (result_width m p) (value_at x p) g; bit_counts = b; sign_bits = c }
testable_rhs m x p fs reserved_const g r n b c = record { low = r.0; high = n.0; fits = constant_below (result_width m p) (value_at x p) g; bit_counts = b; sign_bits = c }
testable_rhs m x p fs (block k) g r n b c = tt
testable_rhs m x p fs (phi k) g r n b c = tt
testable_rhs m x p fs (instruction k) g r n b c = tt

testable_statement : (m : WidthMap) (x : World) (p : ℕ) (s : PlainStatement) → GivesStatement poison_inputs (result_width m p) x p (Some s) → IsTypedAt m p s → IsNarrowAt m p → IsTestable (result_width m p) (operand_width m p) x p s
testable_statement m x p (assigned a) g t n = testable_rhs m x p a.attributes a.value g t.row n t.bit_counts t.sign_bits
testable_statement m x p (condition c) g t n = (condition_least m p c.x c.y t.pairs, n.1)
testable_statement m x p (block_condition c) g t n = (condition_least m p c.x c.y t.pairs, n.1)

pub testable : (a : Item) (m : WidthMap) (x : World) (p : ℕ) (s : PlainStatement) (w v : ℕ) → Typed a m → IsWorld poison_inputs a m x → IsEvaluable a m → NeededIn a p → slice_get a.statements p ≡ Some s
    → w ≡ result_width m p → v ≡ operand_width m p → IsTestable w v x p s
testable a m x p s w v t i k d e f g =
    subst (λ (z : ℕ). IsTestable z v x p s) (sym f)
    (subst (λ (z : ℕ). IsTestable (result_width m p) z x p s) (sym g)
    (testable_statement m x p s (subst (λ (o : Option PlainStatement). GivesStatement poison_inputs (result_width m p) x p o) e (i p d)) (typed_at a m p s t d e) (k.narrow p d)))

-- inputs and others

pub testable_input : (w : ℕ) (o : Outcome) (fs : List PlainAttribute) (y : PlainRhs) → IsInput y → IsTestableRhs w o fs y → AreTestable w o fs
testable_input w o fs var i h = h
testable_input w o fs reserved_inst i h = h
testable_input w o fs reserved_const i h = h
testable_input w o fs (block k) i h = absurd i
testable_input w o fs (phi k) i h = absurd i
testable_input w o fs (instruction k) i h = absurd i

pub input_meets : (w : ℕ) (o : Outcome) (fs : List PlainAttribute) (y : PlainRhs) → IsInput y → MeetsFacts w o fs → MeetsRhs w o fs y
input_meets w o fs var i h = h
input_meets w o fs reserved_inst i h = h
input_meets w o fs reserved_const i h = h
input_meets w o fs (block k) i h = tt
input_meets w o fs (phi k) i h = tt
input_meets w o fs (instruction k) i h = tt

pub meets_input : (w : ℕ) (o : Outcome) (fs : List PlainAttribute) (y : PlainRhs) → IsInput y → MeetsRhs w o fs y → MeetsFacts w o fs
meets_input w o fs var i h = h
meets_input w o fs reserved_inst i h = h
meets_input w o fs reserved_const i h = h
meets_input w o fs (block k) i h = absurd i
meets_input w o fs (phi k) i h = absurd i
meets_input w o fs (instruction k) i h = absurd i

pub other_meets : (w : ℕ) (o : Outcome) (fs : List PlainAttribute) (y : PlainRhs) → ¬ IsInput y → MeetsRhs w o fs y
other_meets w o fs var n = absurd (n tt)
other_meets w o fs reserved_inst n = absurd (n tt)
other_meets w o fs reserved_const n = absurd (n tt)
other_meets w o fs (block k) n = tt
other_meets w o fs (phi k) n = tt
other_meets w o fs (instruction k) n = tt

-- what depends on outcomes at the positions that a statement uses

pub operand_agrees : (f g : ℕ → Outcome) (n : ℕ) (o : Operand) → ((i : ℕ) → Has (uses_of_operand o) (value_use i) → f i ≡ g i) → operand_outcome f n o ≡ operand_outcome g n o
operand_agrees f g n (Value i) h = h i (inl refl)
operand_agrees f g n (Constant c) h = refl

equal_agrees : (f g : ℕ → Outcome) (n : ℕ) (x y : Operand) → ((i : ℕ) → Has (uses_of_operand x ++ uses_of_operand y) (value_use i) → f i ≡ g i) → AreEqual f n x y → AreEqual g n x y
equal_agrees f g n x y h k =
    subst (λ (o : Outcome). AreOneNumber o (operand_outcome g n y)) (operand_agrees f g n x (λ i q. h i (Has-left (uses_of_operand x) (uses_of_operand y) (value_use i) q)))
    (subst (λ (o : Outcome). AreOneNumber (operand_outcome f n x) o) (operand_agrees f g n y (λ i q. h i (Has-right (uses_of_operand x) (uses_of_operand y) (value_use i) q))) k)

pub statement_agrees : (f g : ℕ → Outcome) (w v : ℕ) (x : World) (p : ℕ) (s : PlainStatement) → ((i : ℕ) → Has (uses_of s) (value_use i) → f i ≡ g i) → MeetsStatement w v x f p (Some s) → MeetsStatement w v x g p (Some s)
statement_agrees f g w v x p (assigned a) h k = k
statement_agrees f g w v x p (condition c) h k = equal_agrees f g v c.x c.y h k
statement_agrees f g w v x p (block_condition c) h (inl k) = inl k
statement_agrees f g w v x p (block_condition c) h (inr k) = inr (equal_agrees f g v c.x c.y (λ i q. h i (inr q)) k)

pub meets_by : (a : Item) (m : WidthMap) (x : World) (os : List Outcome) (p : ℕ) (s : PlainStatement) (w v : ℕ) → NeededIn a p → slice_get a.statements p ≡ Some s → AreOutcomes a m x os
    → w ≡ result_width m p → v ≡ operand_width m p → MeetsStatement w v x (outcome_in os) p (Some s) ↔ MeetsAt a m x p
meets_by a m x os p s w v d e h f g = (to, back)
  where
    same : (i : ℕ) → Has (uses_of s) (value_use i) → outcome_in os i ≡ out a m x i
    same i k = h i (use-needed a p (value_use i) d (subst (λ (o : Option PlainStatement). Has (uses_of_optional o) (value_use i)) (sym e) k))

    to : MeetsStatement w v x (outcome_in os) p (Some s) → MeetsAt a m x p
    to k =
        subst (λ (o : Option PlainStatement). MeetsStatement (result_width m p) (operand_width m p) x (out a m x) p o) (sym e)
        (subst (λ (z : ℕ). MeetsStatement z (operand_width m p) x (out a m x) p (Some s)) f
        (subst (λ (z : ℕ). MeetsStatement w z x (out a m x) p (Some s)) g (statement_agrees (outcome_in os) (out a m x) w v x p s same k)))

    back : MeetsAt a m x p → MeetsStatement w v x (outcome_in os) p (Some s)
    back k =
        statement_agrees (out a m x) (outcome_in os) w v x p s (λ i q. sym (same i q))
        (subst (λ (z : ℕ). MeetsStatement z v x (out a m x) p (Some s)) (sym f)
        (subst (λ (z : ℕ). MeetsStatement (result_width m p) z x (out a m x) p (Some s)) (sym g)
        (subst (λ (o : Option PlainStatement). MeetsStatement (result_width m p) (operand_width m p) x (out a m x) p o) e k)))
