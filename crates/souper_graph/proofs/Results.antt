-- Lemmas. Replacements by a result.
use Rattle.std.proofs.Common.{◌≡◌, ℕ, ◌++◌, inl, inr, map, List, [], ◌∷◌, Some, None, refl, sym, ap, ◌∙◌, subst}
use Rattle.std.proofs.lemmas.Option.{same_Some}
use Rattle.souper_graph.specs.declared.ast.operands.Operand.{Operand}
use Rattle.souper_graph.specs.declared.ast.operands.Operand.TheVariants.{Value, Constant}
use Rattle.souper_graph.specs.declared.ast.items.Replacement.{Replacement}
use Rattle.souper_graph.specs.declared.ast.items.Replacement.TheVariants.{LhsRhs, Cand as cand_variant}
use Rattle.souper_graph.specs.Values.{PlainStatement, PlainRootAttribute, PlainInfer, PlainCand, Ending, inferred, resulting, replaced, candidate, Item}
use Rattle.souper_graph.specs.View.{view_cand, view_replacement}
use Rattle.souper_graph.specs.Uses.{Has, value_use, position_of, uses_of_operand, conditions, walks_of, walked, NeededIn}
use Rattle.souper_graph.specs.WellFormed.{WellFormed}
use Rattle.souper_graph.specs.Sameness.{carried_operand, carried_infer, carried_ending, SameGraph}
use Rattle.souper_graph.specs.Renaming.{nameless, SameUpToNames}
use Rattle.souper_graph.specs.LeftSides.{infer_of_operand, infer_of, by_result, by_result_operand, ended_by, IsByResult, IsByResultOf}
use Rattle.souper_graph.proofs.Lists.{Has-left, Has-right, Has-cases}
use Rattle.souper_graph.proofs.RoundTrip.Leads.{needed-more}

-- ---- a cand by a result

module _ (ss : List PlainStatement) (i : PlainInfer) (r : Operand) where
  abbrev cand : Item
  cand = record { statements = ss; ending = candidate (record { lhs = Value i.value; rhs = r; attributes = i.attributes }) }

  abbrev whole : Item
  whole = record { statements = ss; ending = replaced i r }

  abbrev us : List ℕ
  us = map position_of (uses_of_operand r)

  abbrev cs : List ℕ
  cs = conditions whole

  walk : (j : ℕ) → Has (walks_of whole) j → Has (walks_of cand) j
  walk j h =
      let roots = map position_of (value_use i.value ∷ uses_of_operand r) in
      Has-left (roots ++ cs) [] j (elim (Has-cases (i.value ∷ cs) us j h) [
        | inl f ↦ elim (Has-cases (i.value ∷ []) cs j f) [
          | inl a ↦ Has-left roots cs j (Has-left (i.value ∷ []) us j a)
          | inr b ↦ Has-right roots cs j b
        ]
        | inr b ↦ Has-left roots cs j (Has-right (i.value ∷ []) us j b)
      ])

  walk-back : (j : ℕ) → Has (walks_of cand) j → Has (walks_of whole) j
  walk-back j h = elim (Has-cases ((i.value ∷ us) ++ cs) [] j h) [
    | inl f ↦ elim (Has-cases (i.value ∷ us) cs j f) [
      | inl a ↦ elim (Has-cases (i.value ∷ []) us j a) [
        | inl v ↦ Has-left (i.value ∷ cs) us j (Has-left (i.value ∷ []) cs j v)
        | inr u ↦ Has-right (i.value ∷ cs) us j u
      ]
      | inr c ↦ Has-left (i.value ∷ cs) us j (Has-right (i.value ∷ []) cs j c)
    ]
    | inr n ↦ absurd n
  ]

  up : {j : ℕ} → NeededIn whole j → NeededIn cand j
  up d = needed-more ss (walks_of whole) (walks_of cand) (λ k h. walked (walk k h)) d

  down : {j : ℕ} → NeededIn cand j → NeededIn whole j
  down d = needed-more ss (walks_of cand) (walks_of whole) (λ k h. walked (walk-back k h)) d

  by-result-well : WellFormed cand → WellFormed whole
  by-result-well w = record {
    roots_met = λ u h. w.roots_met u (Has-left (value_use i.value ∷ uses_of_operand r) [] u h);
    ending_fits = (w.ending_fits.2, w.ending_fits.1);
    closed = λ p s d e. w.closed p s (up d) e;
    named_apart = λ p q v x dp dq ep eq en. w.named_apart p q v x (up dp) (up dq) ep eq en;
  }

-- two cands that are the same graph are so by a result
cand-same : (ss ts : List PlainStatement) (i j : PlainInfer) (r t : Operand) → SameGraph (cand ss i r) (cand ts j t) → SameGraph (whole ss i r) (whole ts j t)
cand-same ss ts i j r t s = record {
  to = s.to;
  needed = λ p d. down ts j t (s.needed p (up ss i r d));
  onto = λ p d. let o = s.onto p (up ts j t d) in (o.0, down ss i r o.1, o.2);
  one_to_one = λ p q dp dq e. s.one_to_one p q (up ss i r dp) (up ss i r dq) e;
  contents = λ p u d e. s.contents p u (up ss i r d) e;
  ending = λ k. replaced (last.0 k) (last.1 k);
  condition_order = s.condition_order;
}
  where
    last : (j ≡ carried_infer s.to i) × (t ≡ carried_operand s.to r)
    last = parts s.ending
      where
        of_value : Operand → ℕ
        of_value (Value n) = n
        of_value (Constant c) = 0

        cand_of : Ending → PlainCand
        cand_of (inferred x) = record { lhs = r; rhs = r; attributes = [] }
        cand_of (resulting x) = record { lhs = r; rhs = r; attributes = [] }
        cand_of (replaced x y) = record { lhs = r; rhs = r; attributes = [] }
        cand_of (candidate c) = c

        parts : candidate (record { lhs = Value j.value; rhs = t; attributes = j.attributes }) ≡ carried_ending s.to (candidate (record { lhs = Value i.value; rhs = r; attributes = i.attributes }))
            → (j ≡ carried_infer s.to i) × (t ≡ carried_operand s.to r)
        parts e = (
          (λ k. record { value = of_value (cand_of (e k)).lhs; attributes = (cand_of (e k)).attributes }),
          (λ k. (cand_of (e k)).rhs),
        )

-- and back
cand-back : (ss ts : List PlainStatement) (i j : PlainInfer) (r t : Operand) → SameGraph (whole ss i r) (whole ts j t) → SameGraph (cand ss i r) (cand ts j t)
cand-back ss ts i j r t s = record {
  to = s.to;
  needed = λ p d. up ts j t (s.needed p (down ss i r d));
  onto = λ p d. let o = s.onto p (down ts j t d) in (o.0, up ss i r o.1, o.2);
  one_to_one = λ p q dp dq e. s.one_to_one p q (down ss i r dp) (down ss i r dq) e;
  contents = λ p u d e. s.contents p u (down ss i r d) e;
  ending = λ k. candidate (record { lhs = Value (infer_in (s.ending k)).value; rhs = result_in (s.ending k); attributes = (infer_in (s.ending k)).attributes });
  condition_order = s.condition_order;
}
  where
    infer_in : Ending → PlainInfer
    infer_in (inferred x) = x
    infer_in (resulting x) = i
    infer_in (replaced x y) = x
    infer_in (candidate c) = i

    result_in : Ending → Operand
    result_in (inferred x) = r
    result_in (resulting x) = x
    result_in (replaced x y) = y
    result_in (candidate c) = r

-- what a form by a result is of
data FormOf (a : Item) (e : Ending) : Type 0 where
  same : (i : PlainInfer) (r : Operand) → a.ending ≡ replaced i r → e ≡ replaced i r → FormOf a e
  other : (i : PlainInfer) (r : Operand) → a.ending ≡ candidate (record { lhs = Value i.value; rhs = r; attributes = i.attributes }) → e ≡ replaced i r → FormOf a e

form-of : (a : Item) (e : Ending) → by_result a.ending ≡ Some e → FormOf a e
form-of a e q = go a.ending refl q
  where
    of-cand : (c : PlainCand) (o : Operand) → c.lhs ≡ o → a.ending ≡ candidate c → by_result_operand o c.rhs c.attributes ≡ Some e → FormOf a e
    of-cand c (Value n) at is q = other (record { value = n; attributes = c.attributes }) c.rhs (is ∙ (λ k. candidate (record { lhs = at k; rhs = c.rhs; attributes = c.attributes }))) (sym (same_Some _ _ q))
    of-cand c (Constant k) at is q = absurd (cc)

    go : (d : Ending) → a.ending ≡ d → by_result d ≡ Some e → FormOf a e
    go (inferred i) is q = absurd (cc)
    go (resulting r) is q = absurd (cc)
    go (replaced i r) is q = same i r is (sym (same_Some _ _ q))
    go (candidate c) is q = of-cand c c.lhs refl is q

pub law-well : (a : Item) (e : Ending) → by_result a.ending ≡ Some e → WellFormed a → WellFormed (ended_by a e) × (infer_of e ≡ infer_of a.ending) × IsByResult e
law-well a e q w = go (form-of a e q)
  where
    go : FormOf a e → WellFormed (ended_by a e) × (infer_of e ≡ infer_of a.ending) × IsByResult e
    go (same i r at is) = (subst (λ (x : Ending). WellFormed (ended_by a x)) (at ∙ sym is) w, ap infer_of (is ∙ sym at), (i, r, is))
    go (other i r at is) = (
      subst (λ (x : Ending). WellFormed (ended_by a x)) (sym is) (by-result-well a.statements i r (subst (λ (x : Ending). WellFormed (ended_by a x)) at w)),
      ap infer_of is ∙ sym (ap infer_of at),
      (i, r, is),
    )

pub law-same : (a b : Item) (d e : Ending) → by_result a.ending ≡ Some d → by_result b.ending ≡ Some e → SameGraph a b → SameGraph (ended_by a d) (ended_by b e)
law-same a b d e p q s = go (form-of a d p) (form-of b e q)
  where
    go : FormOf a d → FormOf b e → SameGraph (ended_by a d) (ended_by b e)
    go (same i r at is) (same j t at' is') =
        subst (λ (x : Ending). SameGraph (ended_by a x) (ended_by b e)) (at ∙ sym is) (subst (λ (x : Ending). SameGraph a (ended_by b x)) (at' ∙ sym is') s)
    go (same i r at is) (other j t at' is') = let x = s.ending in let y = sym at' ∙ x ∙ ap (carried_ending s.to) at in absurd (cc)
    go (other i r at is) (same j t at' is') = let x = s.ending in let y = sym at' ∙ x ∙ ap (carried_ending s.to) at in absurd (cc)
    go (other i r at is) (other j t at' is') =
        subst (λ (x : Ending). SameGraph (ended_by a x) (ended_by b e)) (sym is) (subst (λ (x : Ending). SameGraph (whole a.statements i r) (ended_by b x)) (sym is')
        (cand-same a.statements b.statements i j r t
        (subst (λ (x : Ending). SameGraph (ended_by a x) (cand b.statements j t)) at (subst (λ (x : Ending). SameGraph a (ended_by b x)) at' s))))

pub law-up-to-names : (a b : Item) (d e : Ending) → by_result a.ending ≡ Some d → by_result b.ending ≡ Some e → SameUpToNames a b → SameUpToNames (ended_by a d) (ended_by b e)
law-up-to-names a b d e p q s = law-same (nameless a) (nameless b) d e p q s

-- cands are the same graph if and only if they are so by a result
pub law-cands : (a b : Item) (c k : PlainCand) (d e : Ending) → a.ending ≡ candidate c → b.ending ≡ candidate k → by_result a.ending ≡ Some d → by_result b.ending ≡ Some e →
    (SameGraph a b → SameGraph (ended_by a d) (ended_by b e)) × (SameGraph (ended_by a d) (ended_by b e) → SameGraph a b)
law-cands a b c k d e ca cb p q = (law-same a b d e p q, go (form-of a d p) (form-of b e q))
  where
    go : FormOf a d → FormOf b e → SameGraph (ended_by a d) (ended_by b e) → SameGraph a b
    go (same i r at is) g s = absurd (cc)
    go (other i r at is) (same j t at' is') s = absurd (cc)
    go (other i r at is) (other j t at' is') s =
        subst (λ (x : Ending). SameGraph (ended_by a x) b) (sym at) (subst (λ (x : Ending). SameGraph (cand a.statements i r) (ended_by b x)) (sym at')
        (cand-back a.statements b.statements i j r t
        (subst (λ (x : Ending). SameGraph (ended_by a x) (whole b.statements j t)) is (subst (λ (x : Ending). SameGraph (ended_by a d) (ended_by b x)) is' s))))

-- ---- what the code has

-- a constant is replaced
pub no-infer : (r : Replacement) → by_result (view_replacement r).ending ≡ None → infer_of (view_replacement r).ending ≡ None
no-infer (LhsRhs ss i o) e = absurd (cc)
no-infer (cand_variant ss c) e = under c.lhs c.rhs (view_cand c).attributes e
  where
    under : (o x : Operand) (attributes : List PlainRootAttribute) → by_result_operand o x attributes ≡ None → infer_of_operand o attributes ≡ None
    under (Value i) x attributes e = absurd (cc)
    under (Constant k) x attributes e = refl

-- a value is replaced
pub has-infer : (a : Item) (e : Ending) → by_result a.ending ≡ Some e → infer_of a.ending ≡ None → ⊥
has-infer a e q n = go (form-of a e q)
  where
    go : FormOf a e → ⊥
    go (same i r at is) = let x = sym n ∙ ap infer_of at in absurd (cc)
    go (other i r at is) = let x = sym n ∙ ap infer_of at in absurd (cc)

pub form-by : (a : Item) (e : Ending) → by_result a.ending ≡ Some e → IsByResult e
form-by a e q = go (form-of a e q)
  where
    go : FormOf a e → IsByResult e
    go (same i r at is) = (i, r, is)
    go (other i r at is) = (i, r, is)

pub form-well : (a x : Item) → IsByResultOf x a → WellFormed a → WellFormed x
form-well a x b wa =
    let is : x ≡ ended_by a x.ending = λ j. record { statements = b.statements j; ending = x.ending } in
    subst (λ (z : Item). WellFormed z) (sym is) (law-well a x.ending b.form wa).0
