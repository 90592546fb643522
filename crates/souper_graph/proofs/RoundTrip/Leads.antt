-- Lemmas. Printed orders of some of an item's walks: how they join, and what a map of the same graph makes of them.
use Rattle.std.proofs.Common.{◌≡◌, ℕ, suc, ◌<◌, ◌++◌, length, map, List, [], ◌∷◌, Bool, true, false, cond, refl, sym, ap, ◌∙◌, subst, arith, append_assoc, append-nil}
use Rattle.std.specs.List.{flat_map}
use Rattle.std.proofs.lemmas.List.{map-append, length-map}
use Rattle.souper_graph.specs.Values.{PlainStatement, Ending, Item}
use Rattle.souper_graph.specs.Uses.{Has, Use, position_of, conditions, first_roots, last_roots, first_walks, walks_of, Needed, walked, used, NeededIn}
use Rattle.souper_graph.specs.Order.{unfolding_of, order_of_walks, printed_order, lead_of}
use Rattle.souper_graph.specs.WellFormed.{WellFormed}
use Rattle.souper_graph.specs.Sameness.{SameGraph, place}
use Rattle.souper_graph.proofs.Lists.{Has-left, Has-none}
use Rattle.souper_graph.proofs.Order.Firsts.{has, with_new, printed-is}
use Rattle.souper_graph.proofs.Order.Sorted.{flat-join}
use Rattle.souper_graph.proofs.Sameness.Indices.{flat-map, with-map, place-inside, place-left}
use Rattle.souper_graph.proofs.Sameness.Carrying.{positions-carried, first-carried}
use Rattle.souper_graph.proofs.Judging.Needed.{first_of}
use Rattle.souper_graph.proofs.Sameness.PrintedOrder.{printed-needed, walks-printed}
use Rattle.souper_graph.proofs.Sameness.Renumbered.{ordered, unfold-carried, has-all, conditions-carried}

-- ---- orders that are joined

with-join : (k xs ys : List ℕ) → with_new k (xs ++ ys) ≡ with_new (with_new k xs) ys
unfolding with_new
with-join k [] ys = refl
with-join k (x ∷ xs) ys = with-join (cond (has k x) k (k ++ x ∷ [])) xs ys

with-next : (b : Bool) (k : List ℕ) (x : ℕ) (xs : List ℕ) → (t : List ℕ) × (with_new k xs ≡ k ++ t) → (t : List ℕ) × (with_new (k ++ x ∷ []) xs ≡ (k ++ x ∷ []) ++ t)
    → (t : List ℕ) × (with_new (cond b k (k ++ x ∷ [])) xs ≡ k ++ t)
with-next true k x xs r s = r
with-next false k x xs r s = (x ∷ s.0, s.1 ∙ append_assoc k (x ∷ []) s.0)

with-more : (k xs : List ℕ) → (t : List ℕ) × (with_new k xs ≡ k ++ t)
unfolding with_new
with-more k [] = ([], sym (append-nil k))
with-more k (x ∷ xs) = with-next (has k x) k x xs (with-more k xs) (with-more (k ++ x ∷ []) xs)

-- the order of the first walks is a prefix of the order of all
pub order-prefix : (g : List PlainStatement) (v w : List ℕ) → (t : List ℕ) × (order_of_walks g (v ++ w) ≡ order_of_walks g v ++ t)
order-prefix g v w =
    let U : List ℕ → List ℕ = λ z. flat_map (unfolding_of g) z in
    let r = with-more (with_new [] (U v)) (U w) in (
      r.0,
      printed-is g (v ++ w) ∙ ap (with_new []) (flat-join (unfolding_of g) v w) ∙ with-join [] (U v) (U w) ∙ r.1 ∙ ap (λ (z : List ℕ). z ++ r.0) (sym (printed-is g v)),
    )

-- a root that is walked first comes before the end of the lead
pub first_leads : (a : Item) (i : ℕ) → Has (first_walks a) i → place (printed_order a) i < lead_of a
first_leads a i h =
    let r = order-prefix a.statements (first_walks a) (map position_of (last_roots a.ending)) in
    let lead = order_of_walks a.statements (first_walks a) in
    let first = walks-printed a.statements (first_walks a) i h in
    subst (λ (n : ℕ). n < lead_of a) (sym (ap (λ (z : List ℕ). place z i) r.1 ∙ place-left lead r.0 i first)) (place-inside lead i first)

-- ---- orders that are carried

pub needed-more : (ss : List PlainStatement) (v w : List ℕ) {j : ℕ} → ((i : ℕ) → Has v i → Needed ss w i) → Needed ss v j → Needed ss w j
needed-more ss v w {j = j} f (walked h) = f j h
needed-more ss v w f (used n h) = used (needed-more ss v w f n) h

walks-order-carried : (a b : Item) → WellFormed a → WellFormed b → (s : SameGraph a b) → (w : List ℕ) → ((i : ℕ) → Has w i → NeededIn a i) →
    order_of_walks b.statements (map s.to w) ≡ map s.to (order_of_walks a.statements w)
walks-order-carried a b wa wb s w f =
    let inner : flat_map (unfolding_of b.statements) (map s.to w) ≡ map s.to (flat_map (unfolding_of a.statements) w) =
    flat-map s.to (unfolding_of a.statements) (unfolding_of b.statements) w (λ u q.
    unfold-carried a b (ordered a wa) (ordered b wb) s (suc u) (suc (s.to u)) u (omega arith) (omega arith) (f u q)) in
    printed-is b.statements (map s.to w)
    ∙ ap (λ z. with_new [] z) inner
    ∙ with-map s.to (NeededIn a) [] (flat_map (unfolding_of a.statements) w)
    (λ i h. absurd (Has-none i h))
    (λ i h. needed-more a.statements w (walks_of a) f (printed-needed a.statements w i (has-all a w i h)))
    s.one_to_one
    ∙ ap (λ z. map s.to z) (sym (printed-is a.statements w))

first-walks-carried : (a b : Item) → WellFormed a → (s : SameGraph a b) → first_walks b ≡ map s.to (first_walks a)
first-walks-carried a b wa s =
    let roots : map position_of (first_roots b.ending) ≡ map s.to (first_of a) =
    ap (λ (d : Ending). map position_of (first_roots d)) s.ending ∙ ap (λ (z : List Use). map position_of z) (first-carried s.to a.ending)
    ∙ positions-carried s.to (first_roots a.ending) in
    (λ k. roots k ++ conditions-carried a b (ordered a wa) s k) ∙ sym (map-append s.to (first_of a) (conditions a))

-- the same graph has the same lead
pub lead-carried : (a b : Item) → WellFormed a → WellFormed b → SameGraph a b → lead_of b ≡ lead_of a
lead-carried a b wa wb s =
    ap (λ (w : List ℕ). length (order_of_walks b.statements w)) (first-walks-carried a b wa s)
    ∙ ap (λ (z : List ℕ). length z) (walks-order-carried a b wa wb s (first_walks a) (λ i h. walked (Has-left (first_walks a) (map position_of (last_roots a.ending)) i h)))
    ∙ length-map (order_of_walks a.statements (first_walks a)) s.to
