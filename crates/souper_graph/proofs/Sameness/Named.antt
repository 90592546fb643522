-- Items with other names: the same graph up to names, and well formed if the names are.
use Rattle.std.proofs.Common.{◌≡◌, ℕ, zero, suc, ◌+◌, length, List, [], ◌∷◌, Bool, true, false, cond, Some, refl, sym, ap, ◌∙◌, subst, arith}
use Rattle.std.specs.Prelude.{nat_lt, option_map}
use Rattle.std.specs.List.{slice_get}
use Rattle.std.proofs.lemmas.Bool.{lt-ltb}
use Rattle.souper_graph.specs.Values.{PlainStatement, PlainAssignment, assigned, condition, block_condition, Item}
use Rattle.souper_graph.specs.Names.{IsName}
use Rattle.souper_graph.specs.Uses.{Has, Use, position_of, conditions, roots_of, NeededIn}
use Rattle.souper_graph.specs.WellFormed.{FitsStatement, FitsEnding, AgreesWithBlock, Closed, WellFormed, IsMet}
use Rattle.souper_graph.specs.Text.{name_of, name_at}
use Rattle.souper_graph.specs.Sameness.{carried, carried_ending, SameGraph, place}
use Rattle.souper_graph.specs.Renaming.{with_name, nameless, SameUpToNames, named_at, named_from, named_by, with_statements}
use Rattle.souper_graph.proofs.Judging.Needed.{stood, statement_at, well_formed_stands}
use Rattle.souper_graph.proofs.Sameness.Carrying.{carried-still, agrees-carried}
use Rattle.souper_graph.proofs.Sameness.Indices.{place-inside}
use Rattle.souper_graph.proofs.Sameness.Renumbered.{Ordered}
use Rattle.souper_graph.proofs.Sameness.Nameless.{uses-named, named-twice, carried-named, without_names, Alike, nameless-alike, alike-conditions, alike-needed, alike-predecessors, alike-met, without-get, there-named, nameless-at, nameless-ordered}

-- ---- an item in which the statements of a list have the names of their indices

module _ (name : ℕ → List ℕ) where
  pub named-once : (ids : List ℕ) (i : ℕ) (m : List ℕ) (s : PlainStatement) → with_name m (named_at name ids i s) ≡ with_name m s
  named-once ids i m s = under (nat_lt (place ids i) (length ids))
    where
      under : (b : Bool) → with_name m (cond b (with_name (name (place ids i)) s) s) ≡ with_name m s
      under true = named-twice m (name (place ids i)) s
      under false = refl

  pub named-again : (ids : List ℕ) (i : ℕ) (s : PlainStatement) → named_at name ids i (named_at name ids i s) ≡ named_at name ids i s
  named-again ids i s = under (nat_lt (place ids i) (length ids))
    where
      n : List ℕ
      n = name (place ids i)

      under : (b : Bool) → cond b (with_name n (cond b (with_name n s) s)) (cond b (with_name n s) s) ≡ cond b (with_name n s) s
      under true = named-twice n n s
      under false = refl

  pub from-nameless : (ids : List ℕ) (i : ℕ) (ss : List PlainStatement) → without_names (named_from name ids i ss) ≡ without_names ss
  from-nameless ids i [] = refl
  from-nameless ids i (s ∷ ss) = λ j. named-once ids i [] s j ∷ from-nameless ids (suc i) ss j

  pub from-again : (ids : List ℕ) (i : ℕ) (ss : List PlainStatement) → named_from name ids i (named_from name ids i ss) ≡ named_from name ids i ss
  from-again ids i [] = refl
  from-again ids i (s ∷ ss) = λ j. named-again ids i s j ∷ from-again ids (suc i) ss j

  pub from-get : (ids : List ℕ) (k : ℕ) (ss : List PlainStatement) (i : ℕ) → slice_get (named_from name ids k ss) i ≡ option_map (named_at name ids (k + i)) (slice_get ss i)
  from-get ids k [] i = refl
  from-get ids k (s ∷ ss) zero = ap (λ (p : ℕ). Some (named_at name ids p s)) (let e : k ≡ k + 0 = omega arith in e)
  from-get ids k (s ∷ ss) (suc i) =
      from-get ids (suc k) ss i ∙ ap (λ (p : ℕ). option_map (named_at name ids p) (slice_get ss i)) (let e : suc k + i ≡ k + suc i = omega arith in e)

  pub named-alike : (ids : List ℕ) (a : Item) → Alike a (named_by name ids a)
  named-alike ids a = ap (λ (ss : List PlainStatement). with_statements a ss) (from-nameless ids 0 a.statements)

  pub named-get : (ids : List ℕ) (ss : List PlainStatement) (p : ℕ) (s : PlainStatement) → slice_get ss p ≡ Some s → Has ids p →
      slice_get (named_from name ids 0 ss) p ≡ Some (with_name (name (place ids p)) s)
  named-get ids ss p s there h =
      from-get ids 0 ss p ∙ ap (λ (k : ℕ). option_map (named_at name ids k) (slice_get ss p)) (let e : 0 + p ≡ p = omega arith in e)
      ∙ ap (option_map (named_at name ids p)) there
      ∙ ap (λ (b : Bool). Some (cond b (with_name (name (place ids p)) s) s)) (lt-ltb (place ids p) (length ids) (place-inside ids p h))

-- ---- names by position

-- b is a but for names, and a needed statement at position p has the name f p
pub record IsNamedBy (f : ℕ → List ℕ) (a b : Item) : Type 0 where
  pub alike : nameless b ≡ nameless a
  pub named : (p : ℕ) (s : PlainStatement) → NeededIn a p → slice_get a.statements p ≡ Some s → slice_get b.statements p ≡ Some (with_name (f p) s)

pub own-name : (s : PlainStatement) → with_name (name_of (Some s)) s ≡ s
own-name (assigned a) = refl
own-name (condition p) = refl
own-name (block_condition p) = refl

pub own-names : (a : Item) → IsNamedBy (name_at a.statements) a a
own-names a = record {
  alike = refl;
  named = λ p s d e. e ∙ ap (λ (z : PlainStatement). Some z) (sym (ap (λ (n : List ℕ). with_name n s) (ap name_of e) ∙ own-name s));
}

-- the names that b has do not depend on those that a has
pub nameless-named : (a b : Item) (f : ℕ → List ℕ) → IsNamedBy f a b → IsNamedBy f (nameless a) b
nameless-named a b f n = record {
  alike = n.alike ∙ sym (nameless-alike a);
  named = λ p s d e.
      let u = statement_at a.statements p in
      let at = there-named (slice_get a.statements p) s (sym (without-get a.statements p) ∙ e) in
      n.named p u (alike-needed (nameless a) a (sym (nameless-alike a)) d) at
      ∙ ap (λ (z : PlainStatement). Some z) (sym (named-twice (f p) [] u) ∙ ap (with_name (f p)) (ap stood (sym (nameless-at a p u at) ∙ e)));
}

-- items that are the same graph still are, once each two statements that match have the same name
abbrev pub both-named : (a b x y : Item) (f g : ℕ → List ℕ) → Ordered a → (s : SameGraph a b) → IsNamedBy f a x → IsNamedBy g b y → ((p : ℕ) → NeededIn a p → g (s.to p) ≡ f p) → SameGraph x y
both-named a b x y f g oa s m n same = record {
  to = s.to;
  needed = λ i d. alike-needed b y n.alike (s.needed i (from d));
  onto = λ j d. let r = s.onto j (alike-needed y b (sym n.alike) d) in (r.0, alike-needed a x m.alike r.1, r.2);
  one_to_one = λ i j di dj e. s.one_to_one i j (from di) (from dj) e;
  contents = λ i t d e.
      let u = statement_at a.statements i in
      let at = oa.there i (from d) in
      n.named (s.to i) (carried s.to u) (s.needed i (from d)) (s.contents i u (from d) at)
      ∙ ap (λ (z : List ℕ). Some (with_name z (carried s.to u))) (same i (from d))
      ∙ ap (λ (z : PlainStatement). Some z) (sym (carried-named s.to (f i) u) ∙ ap (carried s.to) (ap stood (sym (m.named i u (from d) at) ∙ e)));
  ending = ap (λ (z : Item). z.ending) n.alike ∙ s.ending ∙ ap (λ (z : Item). carried_ending s.to z.ending) (sym m.alike);
  condition_order = λ i j hi hj l. s.condition_order i j (condition_from i hi) (condition_from j hj) l;
}
  where
    from : {i : ℕ} → NeededIn x i → NeededIn a i
    from d = alike-needed x a (sym m.alike) d

    condition_from : (i : ℕ) → Has (conditions x) i → Has (conditions a) i
    condition_from i h = subst (λ (z : List ℕ). Has z i) (alike-conditions a x m.alike) h

-- b has the names of q, and is the same graph up to names
unfoldable pub named-graph : (q l b : Item) (f : ℕ → List ℕ) → Ordered q → Ordered l → (s : SameUpToNames q l) → IsNamedBy f l b → ((p : ℕ) → NeededIn q p → f (s.to p) ≡ name_at q.statements p) → SameGraph q b
named-graph q l b f oq ol s n same =
    both-named (nameless q) (nameless l) q b (name_at q.statements) f (nameless-ordered q oq) s (nameless-named q q (name_at q.statements) (own-names q)) (nameless-named l b f n)
    (λ p d. same p (alike-needed (nameless q) q (sym (nameless-alike q)) d))

-- ---- well formed

fits-named : (n : List ℕ) (s : PlainStatement) → ((v : PlainAssignment) → s ≡ assigned v → IsName n) → FitsStatement s → FitsStatement (with_name n s)
fits-named n (assigned a) i h = record { name_fits = i a refl; type_fits = h.type_fits; value_fits = h.value_fits; attributes_fit = h.attributes_fit }
fits-named n (condition p) i h = h
fits-named n (block_condition p) i h = h

agrees-named : (ss : List PlainStatement) (n : List ℕ) (s : PlainStatement) → AgreesWithBlock ss s → AgreesWithBlock ss (with_name n s)
agrees-named ss n (assigned a) h = h
agrees-named ss n (condition p) h = h
agrees-named ss n (block_condition p) h = h

-- an assignment that has a name
was-assigned : (n : List ℕ) (s : PlainStatement) (v : PlainAssignment) → with_name n s ≡ assigned v → (w : PlainAssignment) × (s ≡ assigned w) × (n ≡ v.name)
was-assigned n (assigned a) v e = (a, refl, ap name_in_it e)
  where
    name_in_it : PlainStatement → List ℕ
    name_in_it (assigned x) = x.name
    name_in_it (condition p) = []
    name_in_it (block_condition p) = []
was-assigned n (condition p) v e = absurd (cc)
was-assigned n (block_condition p) v e = absurd (cc)

pub named-well : (a b : Item) (f : ℕ → List ℕ) → WellFormed a → IsNamedBy f a b →
    ((p : ℕ) (v : PlainAssignment) → NeededIn a p → slice_get a.statements p ≡ Some (assigned v) → IsName (f p)) →
    ((p p' : ℕ) (v w : PlainAssignment) → NeededIn a p → NeededIn a p' → slice_get a.statements p ≡ Some (assigned v) → slice_get a.statements p' ≡ Some (assigned w) → f p ≡ f p' → p ≡ p') →
    WellFormed b
named-well a b f wa n names apart = record {
  roots_met = λ u h. met u (wa.roots_met u (subst (λ (d : Item). Has (roots_of d.ending) u) n.alike h));
  ending_fits = subst (λ (d : Item). FitsEnding d.ending) (sym n.alike) wa.ending_fits;
  closed = λ p s d e.
      let da = needed d in
      let t = statement_at a.statements p in
      let at = well_formed_stands a wa p da in
      subst (λ (z : PlainStatement). Closed b.statements p z) (ap stood (sym (n.named p t da at) ∙ e))
      (closed-named (f p) p t (wa.closed p t da at) (λ v q. names p v da (at ∙ ap (λ (z : PlainStatement). Some z) q)));
  named_apart = λ p p' v w dp dq ep eq en.
      let at = well_formed_stands a wa p (needed dp) in
      let at' = well_formed_stands a wa p' (needed dq) in
      let x = was-assigned (f p) (statement_at a.statements p) v (ap stood (sym (n.named p (statement_at a.statements p) (needed dp) at) ∙ ep)) in
      let y = was-assigned (f p') (statement_at a.statements p') w (ap stood (sym (n.named p' (statement_at a.statements p') (needed dq) at') ∙ eq)) in
      apart p p' x.0 y.0 (needed dp) (needed dq) (at ∙ ap (λ (z : PlainStatement). Some z) x.1) (at' ∙ ap (λ (z : PlainStatement). Some z) y.1) (x.2 ∙ en ∙ sym y.2);
}
  where
    needed : {i : ℕ} → NeededIn b i → NeededIn a i
    needed d = alike-needed b a (sym n.alike) d

    met : (u : Use) → IsMet a.statements u → IsMet b.statements u
    met u h = alike-met a b n.alike u h

    closed-named : (m : List ℕ) (p : ℕ) (t : PlainStatement) → Closed a.statements p t → ((v : PlainAssignment) → t ≡ assigned v → IsName m) → Closed b.statements p (with_name m t)
    closed-named m p t c i = record {
      fits = fits-named m t i c.fits;
      below = λ u h. c.below u (subst (λ (z : List Use). Has z u) (uses-named m t) h);
      met = λ u h. met u (c.met u (subst (λ (z : List Use). Has z u) (uses-named m t) h));
      agrees = agrees-named b.statements m t
          (subst (λ (z : PlainStatement). AgreesWithBlock b.statements z) (carried-still t)
          (agrees-carried (λ j. j) a.statements b.statements t (λ u h. alike-predecessors a b n.alike (position_of u)) c.agrees));
    }
