-- Lemmas on the outcome at a position: it is what its statement says of the outcomes at the positions that it uses.
use Rattle.std.proofs.Common.{◌≡◌, ℕ, zero, suc, ◌+◌, ◌<◌, List, [], ◌∷◌, ◌++◌, length, Option, Some, None, slice_get, refl, sym, ◌∙◌, ap, subst, arith, inl, inr, zero-add}
use Rattle.std.proofs.lemmas.List.{length-append}
use Rattle.std.proofs.lemmas.List.{get_or-set_other, get_or-set_same}
use Rattle.std.proofs.lemmas.Bool.Decides.{eqb_tells}
use Rattle.std.proofs.Math.ListN.{get_or-append, set}
use Rattle.std.proofs.Math.Seq.{get_or-append_seam}
use Rattle.souper_graph.specs.declared.ast.operands.Operand.{Operand}
use Rattle.souper_graph.specs.declared.ast.operands.Operand.TheVariants.{Value, Constant}
use Rattle.souper_graph.specs.Values.{PlainRhs, var, block, phi, reserved_inst, reserved_const, instruction, PlainStatement, assigned, condition, block_condition, Item}
use Rattle.souper_graph.specs.Instructions.{operands_of}
use Rattle.souper_graph.specs.Uses.{Has, Use, value_use, position_of, uses_of_operand, uses_of_operands, uses_of_rhs, uses_of, uses_of_optional, NeededIn}
use Rattle.souper_graph.specs.WellFormed.{WellFormed}
use Rattle.souper_graph.proofs.Judging.Needed.{use-needed}
use Rattle.souper_widths.specs.Maps.{WidthMap, result_width, operand_width}
use Rattle.souper_words.specs.declared.outcome.Outcome.{Outcome}
use Rattle.souper_words.specs.declared.outcome.Outcome.TheVariants.{Undefined}
use Rattle.souper_words.specs.declared.words.Word.{Word}
use Rattle.souper_words.specs.Words.{outcome}
use Rattle.souper_meaning.specs.Worlds.{World, predecessor_at, choice_at}
use Rattle.souper_meaning.specs.Instructions.{meaning_of, operand_outcome, first_width, second_width, optional_outcome, word_outcome, optional_word_outcome}
use Rattle.souper_meaning.specs.Statements.{executed_outcome, rhs_outcome, outcome_by, statement_outcome, outcome_in, outcomes_from, out, IsByStatement, AreOutcomesBelow}

has-left : (xs ys : List Use) (u : Use) → Has xs u → Has (xs ++ ys) u
has-left [] ys u h = absurd h
has-left (x ∷ xs) ys u (inl e) = inl e
has-left (x ∷ xs) ys u (inr h) = inr (has-left xs ys u h)

has-right : (xs ys : List Use) (u : Use) → Has ys u → Has (xs ++ ys) u
has-right [] ys u h = h
has-right (x ∷ xs) ys u h = inr (has-right xs ys u h)

-- both give the same at the positions of the uses
pub record Agree (f g : ℕ → Outcome) (us : List Use) : Type 0 where
  pub same : (u : Use) → Has us u → f (position_of u) ≡ g (position_of u)

front : {f g : ℕ → Outcome} (xs ys : List Use) → Agree f g (xs ++ ys) → Agree f g xs
front xs ys h = record { same = λ u i. h.same u (has-left xs ys u i) }

back : {f g : ℕ → Outcome} (xs ys : List Use) → Agree f g (xs ++ ys) → Agree f g ys
back xs ys h = record { same = λ u i. h.same u (has-right xs ys u i) }

module _ (f g : ℕ → Outcome) where
  operand_same : (n : ℕ) (o : Operand) → Agree f g (uses_of_operand o) → operand_outcome f n o ≡ operand_outcome g n o
  operand_same n (Value i) h = h.same (value_use i) (inl refl)
  operand_same n (Constant c) h = refl

  executed_same : (n : ℕ) (os : List Operand) (k : ℕ) → Agree f g (uses_of_operands os) → executed_outcome f n (slice_get os k) ≡ executed_outcome g n (slice_get os k)
  executed_same n [] k h = refl
  executed_same n (o ∷ os) zero h = operand_same n o (front (uses_of_operand o) (uses_of_operands os) h)
  executed_same n (o ∷ os) (suc k) h = executed_same n os k (back (uses_of_operand o) (uses_of_operands os) h)

  operand_at_same : (n : ℕ) (os : List Operand) (k : ℕ) → Agree f g (uses_of_operands os) → optional_outcome f n (slice_get os k) ≡ optional_outcome g n (slice_get os k)
  operand_at_same n [] k h = refl
  operand_at_same n (o ∷ os) zero h = operand_same n o (front (uses_of_operand o) (uses_of_operands os) h)
  operand_at_same n (o ∷ os) (suc k) h = operand_at_same n os k (back (uses_of_operand o) (uses_of_operands os) h)

  word_same : (x : Word) (w v choice : ℕ) (os : List Operand) → Agree f g (uses_of_operands os) → word_outcome x w v choice f os ≡ word_outcome x w v choice g os
  word_same x w v choice os h =
      ap (λ o. outcome x w v choice o (optional_outcome f (second_width x v) (slice_get os 1)) (optional_outcome f v (slice_get os 2))) (operand_at_same (first_width x v) os 0 h)
      ∙ ap (λ o. outcome x w v choice (optional_outcome g (first_width x v) (slice_get os 0)) o (optional_outcome f v (slice_get os 2))) (operand_at_same (second_width x v) os 1 h)
      ∙ ap (λ o. outcome x w v choice (optional_outcome g (first_width x v) (slice_get os 0)) (optional_outcome g (second_width x v) (slice_get os 1)) o) (operand_at_same v os 2 h)

  optional_same : (x : Option Word) (w v choice : ℕ) (os : List Operand) → Agree f g (uses_of_operands os) → optional_word_outcome x w v choice f os ≡ optional_word_outcome x w v choice g os
  optional_same None w v choice os h = refl
  optional_same (Some x) w v choice os h = word_same x w v choice os h

  rhs_same : (w v : ℕ) (x : World) (p : ℕ) (r : PlainRhs) → Agree f g (uses_of_rhs r) → rhs_outcome w v x p f r ≡ rhs_outcome w v x p g r
  rhs_same w v x p var h = refl
  rhs_same w v x p (block b) h = refl
  rhs_same w v x p (phi q) h = executed_same v q.values (predecessor_at x q.block) (record { same = λ u i. h.same u (inr i) })
  rhs_same w v x p reserved_inst h = refl
  rhs_same w v x p reserved_const h = refl
  rhs_same w v x p (instruction i) h = optional_same (meaning_of i) w v (choice_at x p) (operands_of i) h

  by_widths_same : (w v : ℕ) (x : World) (p : ℕ) (s : PlainStatement) → Agree f g (uses_of s) → outcome_by w v x p f s ≡ outcome_by w v x p g s
  by_widths_same w v x p (assigned a) h = rhs_same w v x p a.value h
  by_widths_same w v x p (condition c) h = refl
  by_widths_same w v x p (block_condition c) h = refl

  pub statement_same : (m : WidthMap) (x : World) (p : ℕ) (s : PlainStatement) → Agree f g (uses_of s) → statement_outcome m x p f s ≡ statement_outcome m x p g s
  statement_same m x p s h = by_widths_same (result_width m p) (operand_width m p) x p s h

-- later statements keep the outcomes of earlier ones
kept : (m : WidthMap) (x : World) (ss : List PlainStatement) (k : ℕ) (done : List Outcome) (i : ℕ) → i < length done → outcome_in (outcomes_from m x k done ss) i ≡ outcome_in done i
kept m x [] k done i h = refl
kept m x (s ∷ ss) k done i h =
    let o = statement_outcome m x k (outcome_in done) s in
    let l : i < length (done ++ (o ∷ [])) = omega (arith, length-append done (o ∷ [])) in
    kept m x ss (suc k) (done ++ (o ∷ [])) i l ∙ get_or-append done (o ∷ []) Undefined i h

-- the outcome of the first statement
first_outcome : (m : WidthMap) (x : World) (t : PlainStatement) (ss : List PlainStatement) (k : ℕ) (done : List Outcome) → length done ≡ k → ((u : Use) → Has (uses_of t) u → position_of u < k) → outcome_in (outcomes_from m x k done (t ∷ ss)) k ≡ statement_outcome m x k (outcome_in (outcomes_from m x k done (t ∷ ss))) t
first_outcome m x t ss k done e below =
    let o = statement_outcome m x k (outcome_in done) t in
    let l : k < length (done ++ (o ∷ [])) = omega (arith, length-append done (o ∷ [])) in
    kept m x ss (suc k) (done ++ (o ∷ [])) k l
    ∙ ap (outcome_in (done ++ (o ∷ []))) (sym e)
    ∙ get_or-append_seam done o [] Undefined
    ∙ statement_same (outcome_in done) (outcome_in (outcomes_from m x k done (t ∷ ss))) m x k t (record {
      same = λ u i. sym (kept m x (t ∷ ss) k done (position_of u) (omega (arith, below u i)));
    })

at_position : (m : WidthMap) (x : World) (ss : List PlainStatement) (k : ℕ) (done : List Outcome) (j p : ℕ) (s : PlainStatement) → length done ≡ k → k + j ≡ p → slice_get ss j ≡ Some s → ((u : Use) → Has (uses_of s) u → position_of u < p) → outcome_in (outcomes_from m x k done ss) p ≡ statement_outcome m x p (outcome_in (outcomes_from m x k done ss)) s
at_position m x [] k done j p s e q h below = absurd (let c : None ≡ Some s = h in cc)
at_position m x (t ∷ ss) k done zero p s e q h below =
    let f : t ≡ s = cc in
    let g : k ≡ p = omega arith in
    subst (λ (n : ℕ). outcome_in (outcomes_from m x k done (t ∷ ss)) n ≡ statement_outcome m x n (outcome_in (outcomes_from m x k done (t ∷ ss))) s) g
    (subst (λ (r : PlainStatement). outcome_in (outcomes_from m x k done (t ∷ ss)) k ≡ statement_outcome m x k (outcome_in (outcomes_from m x k done (t ∷ ss))) r) f
    (first_outcome m x t ss k done e (λ u i. omega (arith, below u (subst (λ (r : PlainStatement). Has (uses_of r) u) f i)))))
at_position m x (t ∷ ss) k done (suc j) p s e q h below =
    let o = statement_outcome m x k (outcome_in done) t in
    at_position m x ss (suc k) (done ++ (o ∷ [])) j p s (omega (arith, length-append done (o ∷ []))) (omega arith) h below

pub by_statement : (a : Item) (m : WidthMap) (x : World) → WellFormed a → IsByStatement a m x
by_statement a m x w = λ p s n h. at_position m x a.statements 0 [] p p s refl (zero-add p) h (w.closed p s n h).below

-- and what it says of any outcomes that are right at the needed positions below
pub by_outcomes_below : (a : Item) (m : WidthMap) (x : World) (os : List Outcome) (p : ℕ) (s : PlainStatement) → WellFormed a → NeededIn a p → slice_get a.statements p ≡ Some s → AreOutcomesBelow a m x os p → statement_outcome m x p (outcome_in os) s ≡ out a m x p
by_outcomes_below a m x os p s w n h before =
    statement_same (outcome_in os) (out a m x) m x p s (record {
      same = λ u i. before (position_of u) (use-needed a p u n (subst (λ (o : Option PlainStatement). Has (uses_of_optional o) u) (sym h) i)) ((w.closed p s n h).below u i);
    })
    ∙ sym (by_statement a m x w p s n h)

-- one more position of a list
pub outcomes_more : (a : Item) (m : WidthMap) (x : World) (os : List Outcome) (n : ℕ) (o : Outcome) → n < length os → (NeededIn a n → o ≡ out a m x n) → AreOutcomesBelow a m x os n → AreOutcomesBelow a m x (set os n o) (n + 1)
outcomes_more a m x os n o l here before p d b = elim (eqb_tells p n) [
  | inl t ↦ subst (λ (q : ℕ). outcome_in (set os n o) q ≡ out a m x q) (sym t.1) (get_or-set_same os n o Undefined l ∙ here (subst (NeededIn a) t.1 d))
  | inr t ↦ get_or-set_other os n p o Undefined t.1 ∙ before p d (omega (arith, t.1, b))
]
