-- What the printed order of a well formed item is, by its definition alone.
use Rattle.std.proofs.Common.{◌≡◌, ℕ, zero, suc, ◌+◌, ◌<◌, ◌≤◌, ◌++◌, ◌⊎◌, inl, inr, List, [], ◌∷◌, Bool, true, false, cond, refl, sym, ap, ◌∙◌, subst, arith, append-nil}
use Rattle.std.specs.List.{flat_map, filter}
use Rattle.std.proofs.lemmas.Bool.{cases_eq}
use Rattle.souper_graph.specs.Values.{PlainStatement, Item}
use Rattle.souper_graph.specs.Uses.{Has, used_at, is_condition, conditions_from, conditions, walks_of, Needed, walked, used, NeededIn}
use Rattle.souper_graph.specs.Order.{unfold_to, unfolding_of, order_of_walks, printed_order, Distinct}
use Rattle.souper_graph.specs.WellFormed.{WellFormed}
use Rattle.souper_graph.specs.Sameness.{place}
use Rattle.souper_graph.proofs.Order.Firsts.{with_new, has_tells, gathered, printed-is}
use Rattle.souper_graph.proofs.Lists.{Has-right, Has-cases, Has-none, Has-here, Has-later, Has-head}
use Rattle.souper_graph.proofs.Order.Runs.{Below}
use Rattle.souper_graph.proofs.Order.Sorted.{below-has, below-from, lower, flat-has, flat-from, unfold-self, Steady, steady_more, steady_push, steady_has, steady_flat, steady_unfold, flat-join}
use Rattle.souper_graph.proofs.Sameness.Indices.{with-has, with-from, with-distinct, with-all, filter-none, filter-join, filter-with, place-here, place-later}
use Rattle.souper_graph.proofs.Judging.Needed.{statement_at, first_of, last_of, in-first, in-conditions, plain_first, plain_last, plain_uses}

-- what an unfolding has is needed
unfold-needed : (g : List PlainStatement) (w : List ℕ) (n p j : ℕ) → Needed g w p → Has (unfold_to g n p) j → Needed g w j
unfold-needed g w zero p j h a = absurd (Has-none j a)
unfold-needed g w (suc n) p j h a = elim (Has-cases (flat_map (unfold_to g n) (lower g p)) (p ∷ []) j a) [
  | inl b ↦ (let r = flat-from (unfold_to g n) (lower g p) j b in
      unfold-needed g w n r.0 j (used h (below-from p (used_at g p) r.0 r.1).1) r.2)
  | inr b ↦ elim (Has-head p j [] b) [ inl e ↦ subst (λ (z : ℕ). Needed g w z) e h | inr q ↦ absurd (Has-none j q) ]
]

gathered-needed : (g : List PlainStatement) (w : List ℕ) (j : ℕ) → Has (gathered g w) j → Needed g w j
gathered-needed g w j h = elim (with-from [] (flat_map (unfolding_of g) w) j h) [
  | inl a ↦ absurd (Has-none j a)
  | inr a ↦ (let r = flat-from (unfolding_of g) w j a in unfold-needed g w (suc r.0) r.0 j (walked r.1) r.2)
]

steady-with : (g : List PlainStatement) (k xs : List ℕ) → Steady g [] k → Steady g k xs → Steady g [] (with_new k xs)
unfolding with_new Steady
steady-with g k [] a b = a
steady-with g k (x ∷ xs) a b = elim (has_tells k x) [
  | inl t ↦ subst (λ (c : Bool). Steady g [] (with_new (cond c k (k ++ x ∷ [])) xs)) (sym t.1)
      (steady-with g k xs a (steady_more g (k ++ x ∷ []) k xs (λ j h. elim (Has-cases k (x ∷ []) j h) [
        | inl q ↦ q
        | inr q ↦ elim (Has-head x j [] q) [ inl e ↦ subst (λ (z : ℕ). Has k z) e t.0 | inr n ↦ absurd (Has-none j n) ]
      ]) b.1))
  | inr t ↦ subst (λ (c : Bool). Steady g [] (with_new (cond c k (k ++ x ∷ [])) xs)) (sym t.1)
      (steady-with g (k ++ x ∷ []) xs (steady_push g [] k x a b.0) b.1)
]

gathered-steady : (g : List PlainStatement) (w : List ℕ) → Steady g [] (gathered g w)
unfolding Steady
gathered-steady g w = steady-with g [] (flat_map (unfolding_of g) w) tt
    (subst (λ (z : List ℕ). Steady g [] z) (append-nil (flat_map (unfolding_of g) w))
    (steady_flat g (unfolding_of g) w [] [] (λ u k r a. steady_unfold g (suc u) u (omega arith) k r) tt))

gathered-once : (g : List PlainStatement) (w : List ℕ) → Distinct (gathered g w)
gathered-once g w = with-distinct [] (flat_map (unfolding_of g) w) tt

needed-gathered : (g : List PlainStatement) (w : List ℕ) {j : ℕ} → Below g w → Needed g w j → Has (gathered g w) j
needed-gathered g w {j = j} ub (walked h) =
    with-has [] (flat_map (unfolding_of g) w) j (inr (flat-has (unfolding_of g) w j j h (unfold-self g (suc j) j (omega arith))))
needed-gathered g w {j = j} ub (used {i = i} n h) =
    steady_has g [] (gathered g w) (gathered-steady g w) i j (needed-gathered g w ub n) (below-has i (used_at g i) j h (ub i j n h))

-- a use occurs at a lower index
steady-place : (g : List PlainStatement) (k xs : List ℕ) (i u : ℕ) → Steady g k xs → Has xs i → Has (lower g i) u → Has k u ⊎ (Has xs u × (place xs u < place xs i))
unfolding Steady
steady-place g k [] i u s h l = absurd (Has-none i h)
steady-place g k (x ∷ xs) i u s h l = elim (cases_eq x i) [
  | inl e ↦ inl (s.0 u (subst (λ (z : ℕ). Has (lower g z) u) (sym e) l))
  | inr ne ↦ elim (Has-head x i xs h) [
    | inl e ↦ absurd (ne e)
    | inr a ↦ (let later = place-later x i xs ne in elim (cases_eq x u) [
      | inl e ↦ inr (
        subst (λ (z : ℕ). Has (x ∷ xs) z) e (Has-here x xs),
        (let q : place (x ∷ xs) u ≡ 0 = ap (λ z. place (z ∷ xs) u) e ∙ place-here u xs in omega arith),
      )
      | inr nu ↦ elim (steady-place g (k ++ x ∷ []) xs i u s.1 a l) [
        | inl b ↦ elim (Has-cases k (x ∷ []) u b) [
          | inl c ↦ inl c
          | inr c ↦ elim (Has-head x u [] c) [ inl e ↦ absurd (nu e) | inr n ↦ absurd (Has-none u n) ]
        ]
        | inr b ↦ (let q = place-later x u xs nu in let r = b.1 in inr (Has-later x u xs b.0, omega arith))
      ]
    ])
  ]
]

use-gathered : (g : List PlainStatement) (w : List ℕ) (i u : ℕ) → Below g w → Needed g w i → Has (used_at g i) u → place (gathered g w) u < place (gathered g w) i
use-gathered g w i u ub n h =
    elim (steady-place g [] (gathered g w) i u (gathered-steady g w) (needed-gathered g w ub n) (below-has i (used_at g i) u h (ub i u n h))) [
      | inl a ↦ absurd (Has-none u a)
      | inr a ↦ a.1
    ]

pub printed-needed : (g : List PlainStatement) (w : List ℕ) (j : ℕ) → Has (order_of_walks g w) j → Needed g w j
printed-needed g w j h = gathered-needed g w j (subst (λ (z : List ℕ). Has z j) (printed-is g w) h)

pub needed-printed : (g : List PlainStatement) (w : List ℕ) {j : ℕ} → Below g w → Needed g w j → Has (order_of_walks g w) j
needed-printed g w {j = j} ub n = subst (λ (z : List ℕ). Has z j) (sym (printed-is g w)) (needed-gathered g w ub n)

-- whether or not uses are below their users
pub walks-printed : (g : List PlainStatement) (w : List ℕ) (j : ℕ) → Has w j → Has (order_of_walks g w) j
walks-printed g w j h =
    subst (λ (z : List ℕ). Has z j) (sym (printed-is g w)) (with-has [] (flat_map (unfolding_of g) w) j (inr (flat-has (unfolding_of g) w j j h (unfold-self g (suc j) j (omega arith)))))

pub printed-closed : (g : List PlainStatement) (w : List ℕ) (i u : ℕ) → Has (order_of_walks g w) i → Has (used_at g i) u → u < i → Has (order_of_walks g w) u
printed-closed g w i u h k l =
    subst (λ (z : List ℕ). Has z u) (sym (printed-is g w))
    (steady_has g [] (gathered g w) (gathered-steady g w) i u (subst (λ (z : List ℕ). Has z i) (printed-is g w) h) (below-has i (used_at g i) u k l))

pub printed-once : (g : List PlainStatement) (w : List ℕ) → Distinct (order_of_walks g w)
printed-once g w = subst (λ (z : List ℕ). Distinct z) (sym (printed-is g w)) (gathered-once g w)

pub use-place : (g : List PlainStatement) (w : List ℕ) (i u : ℕ) → Below g w → Needed g w i → Has (used_at g i) u → place (order_of_walks g w) u < place (order_of_walks g w) i
use-place g w i u ub n h =
    subst (λ (z : List ℕ). place z u < place z i) (sym (printed-is g w)) (use-gathered g w i u ub n h)

-- the conditions of a list of statements

from-lower : (k : ℕ) (g : List PlainStatement) (j : ℕ) → Has (conditions_from k g) j → k ≤ j
from-lower k [] j h = absurd (Has-none j h)
from-lower k (n ∷ g) j h = under (is_condition n) (λ a. from-lower (suc k) g j a) h
  where
    under : (b : Bool) → (Has (conditions_from (suc k) g) j → suc k ≤ j) → Has (cond b (k ∷ conditions_from (suc k) g) (conditions_from (suc k) g)) j → k ≤ j
    under true f h = elim (Has-head k j (conditions_from (suc k) g) h) [ inl e ↦ omega arith | inr a ↦ (let q = f a in omega arith) ]
    under false f h = let q = f h in omega arith

from-distinct : (k : ℕ) (g : List PlainStatement) → Distinct (conditions_from k g)
from-distinct k [] = tt
from-distinct k (n ∷ g) = under (is_condition n) (from-distinct (suc k) g)
  where
    under : (b : Bool) → Distinct (conditions_from (suc k) g) → Distinct (cond b (k ∷ conditions_from (suc k) g) (conditions_from (suc k) g))
    under true d = ((λ a. let q = from-lower (suc k) g k a in absurd (omega arith)), d)
    under false d = d

from-holds : (k : ℕ) (g : List PlainStatement) (j : ℕ) → Has (conditions_from k g) j → (i : ℕ) × (j ≡ k + i) × (is_condition (statement_at g i) ≡ true)
from-holds k [] j h = absurd (Has-none j h)
from-holds k (n ∷ g) j h = under (is_condition n) refl (λ a. from-holds (suc k) g j a) h
  where
    under : (b : Bool) → is_condition n ≡ b → (Has (conditions_from (suc k) g) j → (i : ℕ) × (j ≡ suc k + i) × (is_condition (statement_at g i) ≡ true)) →
        Has (cond b (k ∷ conditions_from (suc k) g) (conditions_from (suc k) g)) j →
        (i : ℕ) × (j ≡ k + i) × (is_condition (statement_at (n ∷ g) i) ≡ true)
    under true e f h = elim (Has-head k j (conditions_from (suc k) g) h) [
      | inl q ↦ (0, omega arith, e)
      | inr a ↦ (let r = f a in let q = r.1 in (suc r.0, omega arith, r.2))
    ]
    under false e f h = let r = f h in let q = r.1 in (suc r.0, omega arith, r.2)

pub condition-holds : (a : Item) (j : ℕ) → Has (conditions a) j → is_condition (statement_at a.statements j) ≡ true
condition-holds a j h =
    let r = from-holds 0 a.statements j h in let q : j ≡ r.0 = (let z = r.1 in omega arith) in
    ap (λ z. is_condition (statement_at a.statements z)) q ∙ r.2

from-has : (k : ℕ) (g : List PlainStatement) (i : ℕ) → is_condition (statement_at g i) ≡ true → Has (conditions_from k g) (k + i)
from-has k [] i e = absurd (cc)
from-has k (n ∷ g) zero e =
    subst (λ (z : ℕ). Has (conditions_from k (n ∷ g)) z) (let q : k ≡ k + 0 = omega arith in q)
    (subst (λ (b : Bool). Has (cond b (k ∷ conditions_from (suc k) g) (conditions_from (suc k) g)) k) (sym e) (Has-here k (conditions_from (suc k) g)))
from-has k (n ∷ g) (suc i) e =
    subst (λ (z : ℕ). Has (conditions_from k (n ∷ g)) z) (let q : suc k + i ≡ k + suc i = omega arith in q) (under (is_condition n) (from-has (suc k) g i e))
  where
    under : (b : Bool) → Has (conditions_from (suc k) g) (suc k + i) → Has (cond b (k ∷ conditions_from (suc k) g) (conditions_from (suc k) g)) (suc k + i)
    under true h = Has-later k (suc k + i) (conditions_from (suc k) g) h
    under false h = h

pub is-condition : (a : Item) (i : ℕ) → is_condition (statement_at a.statements i) ≡ true → Has (conditions a) i
is-condition a i e = subst (λ (z : ℕ). Has (conditions a) z) (let q : 0 + i ≡ i = omega arith in q) (from-has 0 a.statements i e)

-- a path condition is needed
pub condition-needed : (a : Item) (i : ℕ) → is_condition (statement_at a.statements i) ≡ true → NeededIn a i
condition-needed a i e = walked (in-conditions a i (is-condition a i e))

unfoldable pub Increasing : List ℕ → Type 0
Increasing [] = Unit {0}
Increasing (x ∷ xs) = ((j : ℕ) → Has xs j → x < j) × Increasing xs

pub from-increasing : (k : ℕ) (g : List PlainStatement) → Increasing (conditions_from k g)
unfolding Increasing
from-increasing k [] = tt
from-increasing k (n ∷ g) = under (is_condition n) (from-increasing (suc k) g)
  where
    under : (b : Bool) → Increasing (conditions_from (suc k) g) → Increasing (cond b (k ∷ conditions_from (suc k) g) (conditions_from (suc k) g))
    under true d = ((λ j a. from-lower (suc k) g j a), d)
    under false d = d

-- two increasing lists of the same numbers are one list
pub same-increasing : (xs ys : List ℕ) → Increasing xs → Increasing ys → ((i : ℕ) → Has xs i → Has ys i) → ((i : ℕ) → Has ys i → Has xs i) → xs ≡ ys
unfolding Increasing
same-increasing [] [] a b f h = refl
same-increasing [] (y ∷ ys) a b f h = absurd (Has-none y (h y (Has-here y ys)))
same-increasing (x ∷ xs) [] a b f h = absurd (Has-none x (f x (Has-here x xs)))
same-increasing (x ∷ xs) (y ∷ ys) a b f h =
    let one : y ≤ x = elim (Has-head y x ys (f x (Has-here x xs))) [ inl e ↦ omega arith | inr q ↦ (let l = b.0 x q in omega arith) ] in
    let two : x ≤ y = elim (Has-head x y xs (h y (Has-here y ys))) [ inl e ↦ omega arith | inr q ↦ (let l = a.0 y q in omega arith) ] in
    let e : x ≡ y = omega arith in
    ap (λ z. z ∷ xs) e ∙ ap (λ z. y ∷ z) (same-increasing xs ys a.1 b.1
    (λ i q. elim (Has-head y i ys (f i (Has-later x i xs q))) [ inl d ↦ (let l = a.0 i q in absurd (omega arith)) | inr r ↦ r ])
    (λ i q. elim (Has-head x i xs (h i (Has-later y i ys q))) [ inl d ↦ (let l = b.0 i q in absurd (omega arith)) | inr r ↦ r ]))

-- the unfolding of a needed statement has no path condition below its top
abbrev pub condition_at : Item → ℕ → Bool
condition_at a j = is_condition (statement_at a.statements j)

plain-unfolding : (a : Item) → WellFormed a → (n p j : ℕ) → NeededIn a p → Has (flat_map (unfold_to a.statements n) (lower a.statements p)) j → condition_at a j ≡ false
plain-unfolding a wf zero p j h k = (let r = flat-from (unfold_to a.statements 0) (lower a.statements p) j k in absurd (Has-none j r.2))
plain-unfolding a wf (suc n) p j h k =
    let r = flat-from (unfold_to a.statements (suc n)) (lower a.statements p) j k in
    let u = (below-from p (used_at a.statements p) r.0 r.1).1 in
    elim (Has-cases (flat_map (unfold_to a.statements n) (lower a.statements r.0)) (r.0 ∷ []) j r.2) [
      | inl b ↦ plain-unfolding a wf n r.0 j (used h u) b
      | inr b ↦ elim (Has-head r.0 j [] b) [
        | inl e ↦ ap (λ z. condition_at a z) (sym e) ∙ plain_uses a wf p r.0 h u
        | inr q ↦ absurd (Has-none j q)
      ]
    ]

filter-unfold : (a : Item) → WellFormed a → (p : ℕ) → NeededIn a p →
    filter (condition_at a) (unfolding_of a.statements p) ≡ cond (condition_at a p) (p ∷ []) []
filter-unfold a wf p h =
    let F = flat_map (unfold_to a.statements p) (lower a.statements p) in
    filter-join (condition_at a) F (p ∷ [])
    ∙ ap (λ z. z ++ filter (condition_at a) (p ∷ [])) (filter-none (condition_at a) F (λ j k. plain-unfolding a wf p p j h k))

filter-roots : (a : Item) → WellFormed a → (xs : List ℕ) → ((i : ℕ) → Has xs i → NeededIn a i × (condition_at a i ≡ false)) →
    filter (condition_at a) (flat_map (unfolding_of a.statements) xs) ≡ []
filter-roots a wf [] h = refl
filter-roots a wf (x ∷ xs) h =
    let here = h x (Has-here x xs) in
    filter-join (condition_at a) (unfolding_of a.statements x) (flat_map (unfolding_of a.statements) xs)
    ∙ ap (λ z. z ++ filter (condition_at a) (flat_map (unfolding_of a.statements) xs))
    (filter-unfold a wf x here.0 ∙ ap (λ (b : Bool). cond b (x ∷ []) []) here.1)
    ∙ filter-roots a wf xs (λ i k. h i (Has-later x i xs k))

filter-conditions : (a : Item) → WellFormed a → (xs : List ℕ) → ((i : ℕ) → Has xs i → NeededIn a i × (condition_at a i ≡ true)) →
    filter (condition_at a) (flat_map (unfolding_of a.statements) xs) ≡ xs
filter-conditions a wf [] h = refl
filter-conditions a wf (x ∷ xs) h =
    let here = h x (Has-here x xs) in
    filter-join (condition_at a) (unfolding_of a.statements x) (flat_map (unfolding_of a.statements) xs)
    ∙ ap (λ z. z ++ filter (condition_at a) (flat_map (unfolding_of a.statements) xs))
    (filter-unfold a wf x here.0 ∙ ap (λ (b : Bool). cond b (x ∷ []) []) here.1)
    ∙ ap (λ z. x ∷ z) (filter-conditions a wf xs (λ i k. h i (Has-later x i xs k)))

-- the path conditions keep their order in the printed order
pub conditions-printed : (a : Item) → WellFormed a → filter (condition_at a) (printed_order a) ≡ conditions a
conditions-printed a wf =
    let U = flat_map (unfolding_of a.statements) in
    let p = condition_at a in
    ap (λ z. filter p z) (printed-is a.statements (walks_of a))
    ∙ filter-with p [] (U (walks_of a))
    ∙ ap (λ z. with_new [] z) (
    ap (λ z. filter p z) (flat-join (unfolding_of a.statements) (first_of a ++ conditions a) (last_of a))
    ∙ filter-join p (U (first_of a ++ conditions a)) (U (last_of a))
    ∙ ap (λ z. filter p (U (first_of a ++ conditions a)) ++ z)
    (filter-roots a wf (last_of a) (λ i h. (walked (Has-right (first_of a ++ conditions a) (last_of a) i h), plain_last a wf i h)))
    ∙ append-nil (filter p (U (first_of a ++ conditions a)))
    ∙ ap (λ z. filter p z) (flat-join (unfolding_of a.statements) (first_of a) (conditions a))
    ∙ filter-join p (U (first_of a)) (U (conditions a))
    ∙ ap (λ z. z ++ filter p (U (conditions a)))
    (filter-roots a wf (first_of a) (λ i h. (walked (in-first a i h), plain_first a wf i h)))
    ∙ filter-conditions a wf (conditions a) (λ i h. (walked (in-conditions a i h), condition-holds a i h)))
    ∙ with-all [] (conditions a) (from-distinct 0 a.statements) (λ j h k. Has-none j h)
