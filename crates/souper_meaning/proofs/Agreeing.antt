-- Worlds that give the same to the needed statements: the same outcomes, and they meet and refine alike.
use Rattle.std.proofs.Common.{◌≡◌, ℕ, zero, suc, ◌<◌, ◌++◌, List, [], Option, Some, None, slice_get, refl, sym, ap, subst, ◌∙◌, arith, inl, inr}
use Rattle.souper_graph.specs.declared.ast.instructions.Instruction.{Instruction}
use Rattle.souper_graph.specs.declared.ast.instructions.Instruction.TheVariants.{Freeze}
use Rattle.souper_graph.specs.Values.{PlainAttribute, PlainRhs, var, block, phi, reserved_inst, reserved_const, instruction, PlainStatement, assigned, condition, block_condition, Ending, inferred, resulting, replaced, candidate, Item}
use Rattle.souper_graph.specs.Uses.{Has, Use, value_use, block_use, position_of, uses_of_operand, uses_of_rhs, uses_of, uses_of_optional, roots_of, NeededIn}
use Rattle.souper_graph.specs.WellFormed.{WellFormed, IsBlockRhs, IsBlock}
use Rattle.souper_graph.proofs.Lists.{Has-left, Has-right}
use Rattle.souper_graph.proofs.Judging.Needed.{statement_at, well_formed_stands, use-needed, root-walked}
use Rattle.souper_widths.specs.Maps.{WidthMap, result_width, operand_width}
use Rattle.souper_words.specs.declared.outcome.Outcome.{Outcome}
use Rattle.souper_meaning.specs.Worlds.{World, value_at, predecessor_at, choice_at}
use Rattle.souper_meaning.specs.Instructions.{operand_outcome, instruction_outcome}
use Rattle.souper_meaning.specs.Statements.{executed_outcome, rhs_outcome, outcome_by, out}
use Rattle.souper_meaning.specs.Facts.{wanted_bits}
use Rattle.souper_meaning.specs.Sound.{MeetsFacts, MeetsRhs, MeetsStatement, MeetsAt, Meets, Refines, RefinesEnding}
use Rattle.souper_meaning.specs.Exhausted.{RefinesIn}
use Rattle.souper_meaning.proofs.ByPosition.{statement_same, by_statement}
use Rattle.souper_meaning.proofs.Meeting.{operand_agrees, statement_agrees}

abbrev pub SameInstruction : World → World → ℕ → Instruction → Type 0
SameInstruction x y p (Freeze a) = choice_at x p ≡ choice_at y p
SameInstruction x y p i = Unit {0}

abbrev pub SameRhs : World → World → ℕ → PlainRhs → Type 0
SameRhs x y p var = value_at x p ≡ value_at y p
SameRhs x y p (block b) = predecessor_at x p ≡ predecessor_at y p
SameRhs x y p (phi f) = Unit {0}
SameRhs x y p reserved_inst = value_at x p ≡ value_at y p
SameRhs x y p reserved_const = value_at x p ≡ value_at y p
SameRhs x y p (instruction i) = SameInstruction x y p i

abbrev pub SameStatement : World → World → ℕ → Option PlainStatement → Type 0
SameStatement x y p (Some (assigned a)) = SameRhs x y p a.value
SameStatement x y p s = Unit {0}

-- the worlds give the same to the needed statements
pub record AreSame (a : Item) (x y : World) : Type 0 where
  pub at : (p : ℕ) → NeededIn a p → SameStatement x y p (slice_get a.statements p)

-- the blocks that a statement uses are reached by the same predecessors
abbrev SameBlocks : World → World → List Use → Type 0
SameBlocks x y us = (b : ℕ) → Has us (block_use b) → predecessor_at x b ≡ predecessor_at y b

-- one statement

block_rhs_same : (x y : World) (p : ℕ) (r : PlainRhs) → IsBlockRhs r → SameRhs x y p r → predecessor_at x p ≡ predecessor_at y p
block_rhs_same x y p var k h = absurd k
block_rhs_same x y p (block b) k h = h
block_rhs_same x y p (phi f) k h = absurd k
block_rhs_same x y p reserved_inst k h = absurd k
block_rhs_same x y p reserved_const k h = absurd k
block_rhs_same x y p (instruction i) k h = absurd k

block_same : (x y : World) (p : ℕ) (o : Option PlainStatement) → IsBlock o → SameStatement x y p o → predecessor_at x p ≡ predecessor_at y p
block_same x y p None k h = absurd k
block_same x y p (Some (assigned a)) k h = block_rhs_same x y p a.value k h
block_same x y p (Some (condition c)) k h = absurd k
block_same x y p (Some (block_condition c)) k h = absurd k

module _ (x y : World) (p : ℕ) (at : ℕ → Outcome) where
  instruction_moves : (w v : ℕ) (i : Instruction) → SameInstruction x y p i → instruction_outcome w v (choice_at x p) at i ≡ instruction_outcome w v (choice_at y p) at i
  instruction_moves w v (Freeze a) h = ap (λ (z : ℕ). instruction_outcome w v z at (Freeze a)) h
  instruction_moves w v i h = refl

  rhs_moves : (w v : ℕ) (r : PlainRhs) → SameRhs x y p r → SameBlocks x y (uses_of_rhs r) → rhs_outcome w v x p at r ≡ rhs_outcome w v y p at r
  rhs_moves w v var h k = h
  rhs_moves w v (block b) h k = refl
  rhs_moves w v (phi f) h k = ap (λ (z : ℕ). executed_outcome at v (slice_get f.values z)) (k f.block (inl refl))
  rhs_moves w v reserved_inst h k = h
  rhs_moves w v reserved_const h k = h
  rhs_moves w v (instruction i) h k = instruction_moves w v i h

  statement_moves : (w v : ℕ) (s : PlainStatement) → SameStatement x y p (Some s) → SameBlocks x y (uses_of s) → outcome_by w v x p at s ≡ outcome_by w v y p at s
  statement_moves w v (assigned a) h k = rhs_moves w v a.value h k
  statement_moves w v (condition c) h k = refl
  statement_moves w v (block_condition c) h k = refl

  rhs_meets : (w : ℕ) (fs : List PlainAttribute) (r : PlainRhs) → SameRhs x y p r → MeetsRhs w (value_at x p) fs r → MeetsRhs w (value_at y p) fs r
  rhs_meets w fs var h k = subst (λ (o : Outcome). MeetsFacts w o fs) h k
  rhs_meets w fs (block b) h k = tt
  rhs_meets w fs (phi f) h k = tt
  rhs_meets w fs reserved_inst h k = subst (λ (o : Outcome). MeetsFacts w o fs) h k
  rhs_meets w fs reserved_const h k = subst (λ (o : Outcome). MeetsFacts w o fs) h k
  rhs_meets w fs (instruction i) h k = tt

  statement_meets : (w v : ℕ) (s : PlainStatement) → SameStatement x y p (Some s) → SameBlocks x y (uses_of s) → MeetsStatement w v x at p (Some s) → MeetsStatement w v y at p (Some s)
  statement_meets w v (assigned a) h b k = rhs_meets w a.attributes a.value h k
  statement_meets w v (condition c) h b k = k
  statement_meets w v (block_condition c) h b (inl n) = inl (λ e. n (b c.block (inl refl) ∙ e))
  statement_meets w v (block_condition c) h b (inr k) = inr k

-- the last lines

pub ending_agrees : (m : WidthMap) (f g : ℕ → Outcome) (e : Ending) → ((i : ℕ) → Has (roots_of e) (value_use i) → f i ≡ g i) → RefinesEnding m f e → RefinesEnding m g e
ending_agrees m f g (inferred i) h k = k
ending_agrees m f g (resulting r) h k = k
ending_agrees m f g (replaced i r) h k =
    let d : ℕ = wanted_bits m.root i.attributes in
    subst (λ (o : Outcome). Refines d o (operand_outcome g m.root r)) (h i.value (inl refl))
    (subst (λ (o : Outcome). Refines d (f i.value) o) (operand_agrees f g m.root r (λ j q. h j (inr q))) k)
ending_agrees m f g (candidate c) h k =
    let d : ℕ = wanted_bits m.root c.attributes in
    subst (λ (o : Outcome). Refines d o (operand_outcome g m.root c.rhs))
    (operand_agrees f g m.root c.lhs (λ i q. h i (Has-left (uses_of_operand c.lhs ++ uses_of_operand c.rhs) [] (value_use i) (Has-left (uses_of_operand c.lhs) (uses_of_operand c.rhs) (value_use i) q))))
    (subst (λ (o : Outcome). Refines d (operand_outcome f m.root c.lhs) o)
    (operand_agrees f g m.root c.rhs (λ i q. h i (Has-left (uses_of_operand c.lhs ++ uses_of_operand c.rhs) [] (value_use i) (Has-right (uses_of_operand c.lhs) (uses_of_operand c.rhs) (value_use i) q)))) k)

-- a whole item

module _ (a : Item) (m : WidthMap) (x y : World) (wf : WellFormed a) (same : AreSame a x y) where
  at_uses : (p : ℕ) (s : PlainStatement) (u : Use) → NeededIn a p → slice_get a.statements p ≡ Some s → Has (uses_of s) u → NeededIn a (position_of u)
  at_uses p s u d e k = use-needed a p u d (subst (λ (o : Option PlainStatement). Has (uses_of_optional o) u) (sym e) k)

  same_here : (p : ℕ) (s : PlainStatement) → NeededIn a p → slice_get a.statements p ≡ Some s → SameStatement x y p (Some s)
  same_here p s d e = subst (λ (o : Option PlainStatement). SameStatement x y p o) e (same.at p d)

  same_blocks : (p : ℕ) (s : PlainStatement) → NeededIn a p → slice_get a.statements p ≡ Some s → SameBlocks x y (uses_of s)
  same_blocks p s d e b k = block_same x y b (slice_get a.statements b) ((wf.closed p s d e).met (block_use b) k) (same.at b (at_uses p s (block_use b) d e k))

  out_step : (p : ℕ) (s : PlainStatement) → NeededIn a p → slice_get a.statements p ≡ Some s → ((i : ℕ) → i < p → NeededIn a i → out a m x i ≡ out a m y i) → out a m x p ≡ out a m y p
  out_step p s d e before =
      by_statement a m x wf p s d e
      ∙ statement_same (out a m x) (out a m y) m x p s (record { same = λ u k. before (position_of u) ((wf.closed p s d e).below u k) (at_uses p s u d e k) })
      ∙ statement_moves x y p (out a m y) (result_width m p) (operand_width m p) s (same_here p s d e) (same_blocks p s d e)
      ∙ sym (by_statement a m y wf p s d e)

  out_to : (n p : ℕ) → p < n → NeededIn a p → out a m x p ≡ out a m y p
  out_to zero p l d = absurd (omega arith)
  out_to (suc n) p l d = out_step p (statement_at a.statements p) d (well_formed_stands a wf p d) (λ i k e. out_to n i (omega arith) e)

  pub out_agrees : (p : ℕ) → NeededIn a p → out a m x p ≡ out a m y p
  out_agrees p d = out_to (suc p) p (omega arith) d

  meets_at : (p : ℕ) (s : PlainStatement) → NeededIn a p → slice_get a.statements p ≡ Some s → MeetsAt a m x p → MeetsAt a m y p
  meets_at p s d e k =
      subst (λ (o : Option PlainStatement). MeetsStatement (result_width m p) (operand_width m p) y (out a m y) p o) (sym e)
      (statement_meets x y p (out a m y) (result_width m p) (operand_width m p) s (same_here p s d e) (same_blocks p s d e)
      (statement_agrees (out a m x) (out a m y) (result_width m p) (operand_width m p) x p s (λ i q. out_agrees i (at_uses p s (value_use i) d e q))
      (subst (λ (o : Option PlainStatement). MeetsStatement (result_width m p) (operand_width m p) x (out a m x) p o) e k)))

  pub meets_agrees : Meets a m x → Meets a m y
  meets_agrees h p d = meets_at p (statement_at a.statements p) d (well_formed_stands a wf p d) (h p d)

  pub refines_agrees : RefinesIn a m x → RefinesIn a m y
  refines_agrees h = ending_agrees m (out a m x) (out a m y) a.ending (λ i k. out_agrees i (root-walked a (value_use i) k)) h
