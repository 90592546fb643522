use Rattle.std.proofs.Common.{◌<◌, ◌≡◌, ◌↔◌, ◌∙◌, ◌∷◌, List, map, refl, sym, subst, arith, inl, inr}
use Rattle.std.specs.Prelude.{IsTrue, true, false}
use Rattle.std.specs.List.{AllByRecursion}
use Rattle.souper_graph.specs.View.{view_statement}
use Rattle.souper_graph.specs.Uses.{Use, position_of, uses_of}
use Rattle.souper_graph.specs.declared.ast.uses.Use.{Use as UseNode}
use Rattle.souper_graph.specs.UsesView.{view_use}
use Rattle.souper_graph.specs.Flaws.{IsEarlier, IsValueMet}
use Rattle.souper_graph.proofs.ast.well_formed.uses.use_reason.Goals as goal

-- a use is taken of which it holds
one_more : (P : Use → Type 0) (all : List Use) {u : Use} {now rest : List Use} → now ≡ u ∷ rest → P u → (AllByRecursion P now ↔ AllByRecursion P all) → (AllByRecursion P rest ↔ AllByRecursion P all)
one_more P all e p same = (λ h. same.0 (subst (AllByRecursion P) (sym e) (p, h)), λ h. (subst (AllByRecursion P) e (same.1 h)).1)

one_more_if : (F : Type 0) (P : Use → Type 0) (all : List Use) {u : Use} {now rest : List Use} → now ≡ u ∷ rest → P u → ((F × AllByRecursion P now) ↔ AllByRecursion P all) → ((F × AllByRecursion P rest) ↔ AllByRecursion P all)
one_more_if F P all e p same = (λ h. same.0 (h.0, subst (AllByRecursion P) (sym e) (p, h.1)), λ h. let k = same.1 h in (k.0, (subst (AllByRecursion P) e k.1).1))

pub loop-used-init : goal.loop-used-init
loop-used-init c =
    let Early = λ (us : List Use). AllByRecursion (IsEarlier c.args.position) us in
    let Met = λ (us : List Use). AllByRecursion (IsValueMet (map view_statement c.args.statements.now)) us in
    let same = c.into_iter-used-iterator.ensures.into_iter_gives ∙ c.uses-used-items.ensures in
    (tt, tt, (λ h. subst Early same h, λ h. subst Early (sym same) h), (λ h. subst Met same h.1, λ h. (refl, subst Met (sym same) h)))

pub returns-then-index-position : goal.returns-then-index-position
returns-then-index-position c =
    let Early = λ (us : List Use). AllByRecursion (IsEarlier c.args.position) us in
    let late : (position_of (view_use c.in-Some.used) < c.args.position) → ⊥ = λ l. omega (arith, c.if-index-position.true, c.index.ensures, c.position.ensures, l) in
    inl (refl, λ all. late (subst Early c.in-Some.ensures.steps (c.loop-used.invariant.2.1 all)).0)

pub loop-used-preserved-then-not-value_is_assigned : goal.loop-used-preserved-then-not-value_is_assigned
loop-used-preserved-then-not-value_is_assigned c =
    let ss = map view_statement c.args.statements.now in
    let Met = λ (us : List Use). AllByRecursion (IsValueMet ss) us in
    let early : position_of (view_use c.in-Some.used) < c.args.position = omega (arith, c.if-index-position.false, c.index.ensures, c.position.ensures) in
    let unmet : IsValueMet ss (view_use c.in-Some.used) → ⊥ = λ h. absurd (let e = c.if-not-value_is_assigned.ensures.1 (subst (λ (u : UseNode). IsValueMet ss (view_use u)) c.in-Value.is h) in cc) in (
      tt,
      tt,
      one_more (IsEarlier c.args.position) (uses_of (view_statement c.args.statement.now)) c.in-Some.ensures.steps early c.loop-used.invariant.2,
      (λ h. absurd (cc), λ all. absurd (unmet (subst Met c.in-Some.ensures.steps (c.loop-used.invariant.3.1 all).1).0)),
    )

pub loop-used-preserved-else-not-value_is_assigned : goal.loop-used-preserved-else-not-value_is_assigned
loop-used-preserved-else-not-value_is_assigned c =
    let ss = map view_statement c.args.statements.now in
    let early : position_of (view_use c.in-Some.used) < c.args.position = omega (arith, c.if-index-position.false, c.index.ensures, c.position.ensures) in
    let met : IsValueMet ss (view_use c.in-Some.used) = subst (λ (u : UseNode). IsValueMet ss (view_use u)) (sym c.in-Value.is) (c.if-not-value_is_assigned.ensures.0 refl) in
    (tt, tt, one_more (IsEarlier c.args.position) (uses_of (view_statement c.args.statement.now)) c.in-Some.ensures.steps early c.loop-used.invariant.2, one_more_if (IsTrue c.loop-used.are_assigned) (IsValueMet ss) (uses_of (view_statement c.args.statement.now)) c.in-Some.ensures.steps met c.loop-used.invariant.3)

pub loop-used-preserved : goal.loop-used-preserved
loop-used-preserved c =
    let ss = map view_statement c.args.statements.now in
    let early : position_of (view_use c.in-Some.used) < c.args.position = omega (arith, c.if-index-position.false, c.index.ensures, c.position.ensures) in
    let met : IsValueMet ss (view_use c.in-Some.used) = subst (λ (u : UseNode). IsValueMet ss (view_use u)) (sym c.in_default.is) (tt) in
    (tt, tt, one_more (IsEarlier c.args.position) (uses_of (view_statement c.args.statement.now)) c.in-Some.ensures.steps early c.loop-used.invariant.2, one_more_if (IsTrue c.loop-used.are_assigned) (IsValueMet ss) (uses_of (view_statement c.args.statement.now)) c.in-Some.ensures.steps met c.loop-used.invariant.3)

pub returns-then-are_assigned : goal.returns-then-are_assigned
returns-then-are_assigned c =
    let Early = λ (us : List Use). AllByRecursion (IsEarlier c.args.position) us in
    let Met = λ (us : List Use). AllByRecursion (IsValueMet (map view_statement c.args.statements.now)) us in
    (c.loop-used.invariant.2.0 (subst Early (sym c.in-None.ensures.steps.0) tt), (c.loop-used.invariant.3.0 (c.if-are_assigned.true, subst Met (sym c.in-None.ensures.steps.0) tt), tt))

pub returns-else-are_assigned : goal.returns-else-are_assigned
returns-else-are_assigned c =
    let Early = λ (us : List Use). AllByRecursion (IsEarlier c.args.position) us in
    let unmet : IsTrue c.loop-used.are_assigned → ⊥ = λ h. let no : true ≡ false = sym h ∙ c.if-are_assigned.false in absurd cc in
    inr (c.loop-used.invariant.2.0 (subst Early (sym c.in-None.ensures.steps.0) tt), inl (refl, λ all. unmet (c.loop-used.invariant.3.1 all).0))
