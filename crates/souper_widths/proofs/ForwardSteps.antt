-- The pass over the statements: what is known of the first p results and operands.
use Rattle.std.proofs.Common.{◌≡◌, ◌≢◌, ◌⊎◌, ℕ, ◌+◌, ◌<◌, inl, inr, Bool, true, false, List, [], ◌∷◌, ◌++◌, length, get_or, Option, Some, None, refl, sym, ap, subst, ◌∙◌, arith, below_more}
use Rattle.std.specs.Prelude.{slice_get}
use Rattle.std.specs.List.{AllByRecursion}
use Rattle.std.proofs.lemmas.List.{get_or_push, length-append}
use Rattle.std.proofs.Math.ListN.{get_or-append}
use Rattle.souper_graph.specs.declared.ast.operands.Operand.{Operand}
use Rattle.souper_graph.specs.declared.ast.operands.Operand.TheVariants.{Value, Constant}
use Rattle.souper_graph.specs.declared.ast.flaws.FlawLocation.TheVariants.{Statement}
use Rattle.souper_graph.specs.Values.{PlainRhs, var, block, phi, reserved_inst, reserved_const, instruction, PlainStatement, assigned, condition, block_condition, Item}
use Rattle.souper_graph.specs.Uses.{NeededIn}
use Rattle.souper_graph.specs.WellFormed.{IsBlockRhs, IsBlock}
use Rattle.souper_widths.specs.declared.rows.Row.{Row}
use Rattle.souper_widths.specs.declared.rows.Row.TheVariants.{Input, Block, Phi, Same, Bit, Resized, Select, Pair, Number as number_row, Overflow, BadPart, Condition}
use Rattle.souper_widths.specs.Maps.{WidthMap, result_width, operand_width}
use Rattle.souper_widths.specs.Equations.{Holds}
use Rattle.souper_widths.specs.Table.{rhs_row, row_of, operands_in, statement_equations}
use Rattle.souper_widths.specs.Places.{SolvesAt}
use Rattle.souper_widths.specs.Shape.{IsPairRow, IsPair, IsPairOperand, IsBlockOperand, ShapedOperands, ShapedOptional, ShapedAt, operand_reasons, shape_reasons}
use Rattle.souper_widths.specs.Limits.{KeepsAt, limit_reasons}
use Rattle.souper_widths.specs.Kept.{KeptStatement}
use Rattle.souper_widths.specs.Typed.{HasWidths}
use Rattle.souper_widths.specs.Forward.{AgreesBefore, HasResult, IsSingleRow, Forced, ForcedOptional}
use Rattle.souper_widths.specs.Nodes.{MarkNeeded}
use Rattle.souper_widths.proofs.KeptLimits.{statement-kept}

-- a statement with a result is no block and no pair
abbrev pub IsPlainBefore : List PlainStatement → List ℕ → ℕ → Type 0
IsPlainBefore ss rs p = (i : ℕ) → i < p → get_or rs i 0 ≢ 0 → ¬ IsBlock (slice_get ss i) × ¬ IsPair (slice_get ss i)

-- the map has these widths at the first p positions
abbrev pub AgreesWith : WidthMap → List ℕ → List ℕ → ℕ → Type 0
AgreesWith m rs os p = (i : ℕ) → i < p → (result_width m i ≡ get_or rs i 0) × (operand_width m i ≡ get_or os i 0)

pub record ForwardTo (a : Item) (rs os : List ℕ) (p : ℕ) : Type 0 where
  pub results : length rs ≡ p
  pub operands : length os ≡ p
  pub plain : IsPlainBefore a.statements rs p
  pub shaped : (q : ℕ) → q < p → NeededIn a q → AllByRecursion (ShapedAt a (Statement q)) shape_reasons
  pub solves : (m : WidthMap) → AgreesWith m rs os p → (q : ℕ) → q < p → NeededIn a q → SolvesAt a m (Statement q)
  pub kept : (m : WidthMap) → AgreesWith m rs os p → (q : ℕ) → q < p → NeededIn a q → AllByRecursion (KeepsAt a m (Statement q)) limit_reasons
  pub unneeded : (q : ℕ) → q < p → ¬ NeededIn a q → (get_or rs q 0 ≡ 0) × (get_or os q 0 ≡ 0)
  pub only : (n : WidthMap) → HasWidths a n → AgreesWith n rs os p

-- the widths of the statement at p: forced if it is needed, 0 if not
abbrev pub StepAt : Item → List ℕ → ℕ → ℕ → ℕ → Type 0
StepAt a rs p w v = ((s : PlainStatement) × NeededIn a p × (slice_get a.statements p ≡ Some s) × Forced rs s w v) ⊎ (¬ NeededIn a p × (w ≡ 0) × (v ≡ 0))

-- values with results are no blocks and no pairs
pub no-blocks : (ss : List PlainStatement) (rs : List ℕ) (xs : List Operand) → IsPlainBefore ss rs (length rs) → AllByRecursion (HasResult rs) xs → AllByRecursion (λ x. ¬ IsBlockOperand ss x) xs
no-blocks ss rs [] h k = tt
no-blocks ss rs (Value i ∷ xs) h k = ((h i k.0.0 k.0.1).0, no-blocks ss rs xs h k.1)
no-blocks ss rs (Constant c ∷ xs) h k = ((λ b. b), no-blocks ss rs xs h k.1)

pub no-pairs : (ss : List PlainStatement) (rs : List ℕ) (xs : List Operand) → IsPlainBefore ss rs (length rs) → AllByRecursion (HasResult rs) xs → AllByRecursion (λ x. ¬ IsPairOperand ss x) xs
no-pairs ss rs [] h k = tt
no-pairs ss rs (Value i ∷ xs) h k = ((h i k.0.0 k.0.1).1, no-pairs ss rs xs h k.1)
no-pairs ss rs (Constant c ∷ xs) h k = ((λ b. b), no-pairs ss rs xs h k.1)

pub single-shape : (ss : List PlainStatement) (r : Row) (xs : List Operand) → IsSingleRow r → AllByRecursion (λ x. ¬ IsBlockOperand ss x) xs → AllByRecursion (λ x. ¬ IsPairOperand ss x) xs → AllByRecursion (ShapedOperands ss r xs) operand_reasons
single-shape ss Input xs h b n = (b, (n, (tt, (tt, tt))))
single-shape ss Block xs h b n = (b, (n, (tt, (tt, tt))))
single-shape ss Phi xs h b n = (b, (n, (tt, (tt, tt))))
single-shape ss Same xs h b n = (b, (n, (tt, (tt, tt))))
single-shape ss Bit xs h b n = (b, (n, (tt, (tt, tt))))
single-shape ss Resized xs h b n = (b, (n, (tt, (tt, tt))))
single-shape ss Select xs h b n = (b, (n, (tt, (tt, tt))))
single-shape ss Pair xs h b n = absurd h
single-shape ss number_row xs h b n = absurd h
single-shape ss Overflow xs h b n = absurd h
single-shape ss BadPart xs h b n = absurd h
single-shape ss Condition xs h b n = (b, (n, (tt, (tt, tt))))

single-no_pair : (r : Row) → IsSingleRow r → ¬ IsPairRow r
single-no_pair Input h = λ p. p
single-no_pair Block h = λ p. p
single-no_pair Phi h = λ p. p
single-no_pair Same h = λ p. p
single-no_pair Bit h = λ p. p
single-no_pair Resized h = λ p. p
single-no_pair Select h = λ p. p
single-no_pair Pair h = λ p. h
single-no_pair number_row h = λ p. p
single-no_pair Overflow h = λ p. p
single-no_pair BadPart h = λ p. p
single-no_pair Condition h = λ p. p

rhs-block : (x : PlainRhs) → IsBlockRhs x → rhs_row x ≡ Block
rhs-block var h = absurd h
rhs-block (block b) h = refl
rhs-block (phi p) h = absurd h
rhs-block reserved_inst h = absurd h
rhs-block reserved_const h = absurd h
rhs-block (instruction i) h = absurd h

block-row : (s : PlainStatement) → IsBlock (Some s) → row_of s ≡ Block
block-row (assigned a) h = rhs-block a.value h
block-row (condition c) h = absurd h
block-row (block_condition c) h = absurd h

-- what is pushed is at its position, and what comes before stays
below-pushed : (xs : List ℕ) (x p i : ℕ) → length xs ≡ p → i < p → get_or (xs ++ x ∷ []) i 0 ≡ get_or xs i 0
below-pushed xs x p i e l = get_or-append xs (x ∷ []) 0 i (omega (arith, e, l))

fewer : (m : WidthMap) (rs os : List ℕ) (w v p : ℕ) → length rs ≡ p → length os ≡ p → AgreesWith m (rs ++ w ∷ []) (os ++ v ∷ []) (p + 1) → AgreesWith m rs os p
fewer m rs os w v p e f h = λ i l. ((h i (omega (arith, l))).0 ∙ below-pushed rs w p i e l, (h i (omega (arith, l))).1 ∙ below-pushed os v p i f l)

last-result : (m : WidthMap) (rs os : List ℕ) (w v p : ℕ) → length rs ≡ p → AgreesWith m (rs ++ w ∷ []) (os ++ v ∷ []) (p + 1) → result_width m p ≡ w
last-result m rs os w v p e h = (h p (omega arith)).0 ∙ get_or_push rs w 0 p e

last-operands : (m : WidthMap) (rs os : List ℕ) (w v p : ℕ) → length os ≡ p → AgreesWith m (rs ++ w ∷ []) (os ++ v ∷ []) (p + 1) → operand_width m p ≡ v
last-operands m rs os w v p e h = (h p (omega arith)).1 ∙ get_or_push os v 0 p e

pub agrees-before : (m : WidthMap) (rs os : List ℕ) (p : ℕ) → length rs ≡ p → AgreesWith m rs os p → AgreesBefore m rs
agrees-before m rs os p e h = λ i l. (h i (omega (arith, e, l))).0

-- what holds at p alone
plain-here : (ss : List PlainStatement) (rs : List ℕ) (p w v : ℕ) (s : PlainStatement) → slice_get ss p ≡ Some s → Forced rs s w v → w ≢ 0 → ¬ IsBlock (slice_get ss p) × ¬ IsPair (slice_get ss p)
plain-here ss rs p w v s e f n = (
  (λ b. f.row.shown n (block-row s (subst IsBlock e b))),
  (λ b. single-no_pair (row_of s) f.row.single (subst IsPair e b)),
)

shaped-here : (a : Item) (rs os : List ℕ) (p w v : ℕ) (s : PlainStatement) → ForwardTo a rs os p → slice_get a.statements p ≡ Some s → Forced rs s w v → AllByRecursion (ShapedAt a (Statement p)) shape_reasons
shaped-here a rs os p w v s h e f =
    let plain : IsPlainBefore a.statements rs (length rs) = (λ i l. h.plain i (omega (arith, l, h.results))) in
    subst (λ (o : Option PlainStatement). AllByRecursion (ShapedOptional a.statements o) shape_reasons) (sym e) (
      f.row.untyped,
      (
        f.facts,
        single-shape a.statements (row_of s) (operands_in s) f.row.single
            (no-blocks a.statements rs (operands_in s) plain f.row.values) (no-pairs a.statements rs (operands_in s) plain f.row.values),
      ),
    )

solves-here : (a : Item) (m : WidthMap) (rs : List ℕ) (p w v : ℕ) (s : PlainStatement) → slice_get a.statements p ≡ Some s → Forced rs s w v → AgreesBefore m rs → result_width m p ≡ w → operand_width m p ≡ v → SolvesAt a m (Statement p)
solves-here a m rs p w v s e f ag r o = subst (λ (z : Option PlainStatement). AllByRecursion (Holds m) (statement_equations p z)) (sym e) (f.row.solves m p ag r o)

kept-here : (a : Item) (m : WidthMap) (rs : List ℕ) (p w v : ℕ) (s : PlainStatement) → slice_get a.statements p ≡ Some s → Forced rs s w v → result_width m p ≡ w → operand_width m p ≡ v → AllByRecursion (KeepsAt a m (Statement p)) limit_reasons
kept-here a m rs p w v s e f r o = statement-kept m p s (slice_get a.statements p) e
    (subst (λ (z : ℕ). AllByRecursion (KeptStatement z (operand_width m p) s) limit_reasons) (sym r)
    (subst (λ (z : ℕ). AllByRecursion (KeptStatement w z s) limit_reasons) (sym o) f.limits))

only-here : (a : Item) (n : WidthMap) (rs : List ℕ) (p w v : ℕ) (s : PlainStatement) → NeededIn a p → slice_get a.statements p ≡ Some s → Forced rs s w v → AgreesBefore n rs → HasWidths a n → (result_width n p ≡ w) × (operand_width n p ≡ v)
only-here a n rs p w v s k e f ag h = f.row.only n p ag (subst (λ (z : Option PlainStatement). AllByRecursion (Holds n) (statement_equations p z)) e (h.holds (Statement p) k))

-- one step of the pass, from what holds at p
abbrev Here : Item → List ℕ → List ℕ → ℕ → ℕ → ℕ → Type 0
Here a rs os p w v =
    (w ≢ 0 → ¬ IsBlock (slice_get a.statements p) × ¬ IsPair (slice_get a.statements p))
    × (NeededIn a p → AllByRecursion (ShapedAt a (Statement p)) shape_reasons)
    × ((m : WidthMap) → AgreesBefore m rs → result_width m p ≡ w → operand_width m p ≡ v → NeededIn a p → SolvesAt a m (Statement p))
    × ((m : WidthMap) → result_width m p ≡ w → operand_width m p ≡ v → NeededIn a p → AllByRecursion (KeepsAt a m (Statement p)) limit_reasons)
    × (¬ NeededIn a p → (w ≡ 0) × (v ≡ 0))
    × ((n : WidthMap) → HasWidths a n → AgreesBefore n rs → (result_width n p ≡ w) × (operand_width n p ≡ v))

here : (a : Item) (rs os : List ℕ) (p w v : ℕ) → ForwardTo a rs os p → StepAt a rs p w v → Here a rs os p w v
here a rs os p w v h (inl k) = (
  plain-here a.statements rs p w v k.0 k.2 k.3,
  (λ n. shaped-here a rs os p w v k.0 h k.2 k.3),
  (λ m ag r o n. solves-here a m rs p w v k.0 k.2 k.3 ag r o),
  (λ m r o n. kept-here a m rs p w v k.0 k.2 k.3 r o),
  (λ n. absurd (n k.1)),
  (λ n hn ag. only-here a n rs p w v k.0 k.1 k.2 k.3 ag hn),
)
here a rs os p w v h (inr k) = (
  (λ n. absurd (n k.1)),
  (λ n. absurd (k.0 n)),
  (λ m ag r o n. absurd (k.0 n)),
  (λ m r o n. absurd (k.0 n)),
  (λ n. (k.1, k.2)),
  (λ n hn ag. ((hn.unneeded p k.0).0 ∙ sym k.1, (hn.unneeded p k.0).1 ∙ sym k.2)),
)

step-by : (a : Item) (rs os : List ℕ) (p w v : ℕ) → ForwardTo a rs os p → Here a rs os p w v → ForwardTo a (rs ++ w ∷ []) (os ++ v ∷ []) (p + 1)
step-by a rs os p w v h k = record {
  results = omega (arith, length-append {A = ℕ} rs (w ∷ []), h.results);
  operands = omega (arith, length-append {A = ℕ} os (v ∷ []), h.operands);
  plain = below_more (λ i. get_or (rs ++ w ∷ []) i 0 ≢ 0 → ¬ IsBlock (slice_get a.statements i) × ¬ IsPair (slice_get a.statements i)) p
      (λ i l n. h.plain i l (λ z. n (below-pushed rs w p i h.results l ∙ z))) (λ n. k.0 (λ z. n (get_or_push rs w 0 p h.results ∙ z)));
  shaped = below_more (λ q. NeededIn a q → AllByRecursion (ShapedAt a (Statement q)) shape_reasons) p h.shaped k.1;
  solves = λ m ag. below_more (λ q. NeededIn a q → SolvesAt a m (Statement q)) p (h.solves m (fewer m rs os w v p h.results h.operands ag))
      (k.2 m (agrees-before m rs os p h.results (fewer m rs os w v p h.results h.operands ag)) (last-result m rs os w v p h.results ag) (last-operands m rs os w v p h.operands ag));
  kept = λ m ag. below_more (λ q. NeededIn a q → AllByRecursion (KeepsAt a m (Statement q)) limit_reasons) p (h.kept m (fewer m rs os w v p h.results h.operands ag))
      (k.3 m (last-result m rs os w v p h.results ag) (last-operands m rs os w v p h.operands ag));
  unneeded = below_more (λ q. ¬ NeededIn a q → (get_or (rs ++ w ∷ []) q 0 ≡ 0) × (get_or (os ++ v ∷ []) q 0 ≡ 0)) p
      (λ q l n. (below-pushed rs w p q h.results l ∙ (h.unneeded q l n).0, below-pushed os v p q h.operands l ∙ (h.unneeded q l n).1))
      (λ n. (get_or_push rs w 0 p h.results ∙ (k.4 n).0, get_or_push os v 0 p h.operands ∙ (k.4 n).1));
  only = λ n hn.
      let before : AgreesWith n rs os p = h.only n hn in
      let own : (result_width n p ≡ w) × (operand_width n p ≡ v) = k.5 n hn (agrees-before n rs os p h.results before) in
      below_more (λ i. (result_width n i ≡ get_or (rs ++ w ∷ []) i 0) × (operand_width n i ≡ get_or (os ++ v ∷ []) i 0)) p
      (λ i l. ((before i l).0 ∙ sym (below-pushed rs w p i h.results l), (before i l).1 ∙ sym (below-pushed os v p i h.operands l)))
      (own.0 ∙ sym (get_or_push rs w 0 p h.results), own.1 ∙ sym (get_or_push os v 0 p h.operands));
}

pub step : (a : Item) (rs os : List ℕ) (p w v : ℕ) → ForwardTo a rs os p → StepAt a rs p w v → ForwardTo a (rs ++ w ∷ []) (os ++ v ∷ []) (p + 1)
step a rs os p w v h k = step-by a rs os p w v h (here a rs os p w v h k)

pub start : (a : Item) (rs os : List ℕ) → rs ≡ [] → os ≡ [] → ForwardTo a rs os 0
start a rs os e f = record {
  results = ap (λ (z : List ℕ). length z) e;
  operands = ap (λ (z : List ℕ). length z) f;
  plain = λ i l. absurd (omega (arith, l));
  shaped = λ q l. absurd (omega (arith, l));
  solves = λ m ag q l. absurd (omega (arith, l));
  kept = λ m ag q l. absurd (omega (arith, l));
  unneeded = λ q l. absurd (omega (arith, l));
  only = λ n hn i l. absurd (omega (arith, l));
}

forced-some : (rs : List ℕ) (o : Option PlainStatement) (w v : ℕ) → ForcedOptional rs o w v → (s : PlainStatement) × (o ≡ Some s) × Forced rs s w v
forced-some rs None w v h = absurd h
forced-some rs (Some s) w v h = (s, refl, h)

true-or_not : (b : Bool) → (b ≡ true) ⊎ (b ≢ true)
true-or_not true = inl refl
true-or_not false = inr (λ e. absurd (cc e))

-- the widths that are found at p, by its mark
pub found-step : (a : Item) (marks : List Bool) (rs : List ℕ) (p w v : ℕ) → MarkNeeded a marks → (get_or marks p false ≡ true → ForcedOptional rs (slice_get a.statements p) w v) → (get_or marks p false ≢ true → (w ≡ 0) × (v ≡ 0)) → StepAt a rs p w v
found-step a marks rs p w v k needed other = elim (true-or_not (get_or marks p false)) [
  | inl e ↦ let f = forced-some rs (slice_get a.statements p) w v (needed e) in inl (f.0, (k.exact p).0 e, f.1, f.2)
  | inr ne ↦ inr ((λ n. ne ((k.exact p).1 n)), (other ne).0, (other ne).1)
]
