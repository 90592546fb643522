-- The width of an item's roots, and their outcomes by those of its statements.
use Rattle.std.proofs.Common.{◌≡◌, ℕ, ◌≤◌, List, [], ◌∷◌, ◌++◌, Some, refl, ap, inl, inr}
use Rattle.std.specs.Prelude.{option_map}
use Rattle.souper_graph.specs.declared.ast.operands.Operand.TheVariants.{Value}
use Rattle.souper_graph.specs.declared.ast.flaws.FlawLocation.{FlawLocation}
use Rattle.souper_graph.specs.declared.ast.flaws.FlawLocation.TheVariants.{Infer, Result, Cand}
use Rattle.souper_graph.specs.Values.{PlainStatement, Ending, inferred, resulting, replaced, candidate, Item}
use Rattle.souper_graph.specs.Uses.{Has, value_use, uses_of_operand, roots_of}
use Rattle.souper_graph.proofs.Lists.{Has-left, Has-right}
use Rattle.souper_graph.proofs.Judging.Needed.{root-walked}
use Rattle.souper_widths.specs.Maps.{WidthMap}
use Rattle.souper_widths.specs.Equations.{of_root}
use Rattle.souper_widths.specs.Places.{IsPlace, SolvesAt}
use Rattle.souper_widths.specs.Typed.{Typed}
use Rattle.souper_words.specs.declared.outcome.Outcome.{Outcome}
use Rattle.souper_meaning.specs.Worlds.{World}
use Rattle.souper_meaning.specs.Instructions.{operand_outcome}
use Rattle.souper_meaning.specs.Statements.{outcome_in, out, AreOutcomes}
use Rattle.souper_meaning.specs.Evaluations.{left_root, right_root}
use Rattle.souper_meaning.proofs.Rows.{each_least}
use Rattle.souper_meaning.proofs.Meeting.{operand_agrees}

abbrev ended : List PlainStatement → Ending → Item
ended ss e = record { statements = ss; ending = e }

line_least : (m : WidthMap) (ss : List PlainStatement) (e : Ending) → ((l : FlawLocation) → IsPlace (ended ss e) l → SolvesAt (ended ss e) m l) → 1 ≤ m.root
line_least m ss (inferred i) h = each_least m of_root (Value i.value) [] (h Infer (λ q. cc))
line_least m ss (resulting r) h = each_least m of_root r [] (h Result (λ q. cc))
line_least m ss (replaced i r) h = each_least m of_root (Value i.value) [] (h Infer (λ q. cc))
line_least m ss (candidate c) h = each_least m of_root c.lhs (c.rhs ∷ []) (h Cand (λ q. cc))

pub root_least : (a : Item) (m : WidthMap) → Typed a m → 1 ≤ m.root
root_least a m t = line_least m a.statements a.ending t.has.holds

left_same : (f g : ℕ → Outcome) (n : ℕ) (e : Ending) → ((i : ℕ) → Has (roots_of e) (value_use i) → f i ≡ g i) → option_map (operand_outcome f n) (left_root e) ≡ option_map (operand_outcome g n) (left_root e)
left_same f g n (inferred i) h = ap (λ (o : Outcome). Some o) (h i.value (inl refl))
left_same f g n (resulting r) h = refl
left_same f g n (replaced i r) h = ap (λ (o : Outcome). Some o) (h i.value (inl refl))
left_same f g n (candidate c) h =
    ap (λ (o : Outcome). Some o) (operand_agrees f g n c.lhs (λ i k.
    h i (Has-left (uses_of_operand c.lhs ++ uses_of_operand c.rhs) [] (value_use i) (Has-left (uses_of_operand c.lhs) (uses_of_operand c.rhs) (value_use i) k))))

right_same : (f g : ℕ → Outcome) (n : ℕ) (e : Ending) → ((i : ℕ) → Has (roots_of e) (value_use i) → f i ≡ g i) → option_map (operand_outcome f n) (right_root e) ≡ option_map (operand_outcome g n) (right_root e)
right_same f g n (inferred i) h = refl
right_same f g n (resulting r) h = ap (λ (o : Outcome). Some o) (operand_agrees f g n r (λ i k. h i (Has-left (uses_of_operand r) [] (value_use i) k)))
right_same f g n (replaced j r) h = ap (λ (o : Outcome). Some o) (operand_agrees f g n r (λ i k. h i (inr k)))
right_same f g n (candidate c) h =
    ap (λ (o : Outcome). Some o) (operand_agrees f g n c.rhs (λ i k.
    h i (Has-left (uses_of_operand c.lhs ++ uses_of_operand c.rhs) [] (value_use i) (Has-right (uses_of_operand c.lhs) (uses_of_operand c.rhs) (value_use i) k))))

-- the outcomes of the roots, by those of the needed statements

pub left_by : (a : Item) (m : WidthMap) (x : World) (os : List Outcome) → AreOutcomes a m x os → option_map (operand_outcome (outcome_in os) m.root) (left_root a.ending) ≡ option_map (operand_outcome (out a m x) m.root) (left_root a.ending)
left_by a m x os h = left_same (outcome_in os) (out a m x) m.root a.ending (λ i k. h i (root-walked a (value_use i) k))

pub right_by : (a : Item) (m : WidthMap) (x : World) (os : List Outcome) → AreOutcomes a m x os → option_map (operand_outcome (outcome_in os) m.root) (right_root a.ending) ≡ option_map (operand_outcome (out a m x) m.root) (right_root a.ending)
right_by a m x os h = right_same (outcome_in os) (out a m x) m.root a.ending (λ i k. h i (root-walked a (value_use i) k))
