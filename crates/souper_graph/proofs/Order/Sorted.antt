-- If uses are below their users, a run finishes the statements in printed order.
use Rattle.std.proofs.Common.{◌≡◌, ℕ, zero, suc, ◌<◌, ◌++◌, inl, inr, map, List, [], ◌∷◌, Bool, cond, refl, sym, ap, ◌∙◌, subst, arith, append_assoc, append-nil, lt-ltb, le-ltb, nat_lt}
use Rattle.std.specs.List.{flat_map, filter}
use Rattle.std.proofs.lemmas.Bool.{cases_lt}
use Rattle.souper_graph.specs.Values.{PlainStatement}
use Rattle.souper_graph.specs.Uses.{Has, used_at, Needed}
use Rattle.souper_graph.specs.Order.{Distinct, EachAfterItsUses, unfold_to, unfolding_of, order_of_walks}
use Rattle.souper_graph.proofs.Order.Firsts.{has, has_true, has_false, with_new, gathered, printed-is}
use Rattle.souper_graph.proofs.Order.Runs.{Step, trace, finish, Below, Reached, start, walk, dropped, entered, finished}
use Rattle.souper_graph.proofs.Lists.{Has-left, Has-right, Has-cases, Has-none, Has-here, Has-later, Has-head}
use Rattle.souper_graph.proofs.Order.Needed.{kept, needed_more, traces, waiting, waiting-uses}

-- a list of those below p

pub below-has : (p : ℕ) (us : List ℕ) (u : ℕ) → Has us u → u < p → Has (filter (λ x. nat_lt x p) us) u
below-has p [] u h l = absurd (Has-none u h)
below-has p (x ∷ us) u h l =
    let F = filter (λ y. nat_lt y p) us in
    elim (Has-head x u us h) [
      | inl e ↦ (let q : x < p = omega arith in
          subst (λ (b : Bool). Has (cond b (x ∷ F) F) u) (sym (lt-ltb x p q)) (subst (λ (z : ℕ). Has (x ∷ F) z) e (Has-here x F)))
      | inr k ↦ elim (cases_lt x p) [
        | inl q ↦ subst (λ (b : Bool). Has (cond b (x ∷ F) F) u) (sym (lt-ltb x p q)) (Has-later x u F (below-has p us u k l))
        | inr q ↦ subst (λ (b : Bool). Has (cond b (x ∷ F) F) u) (sym (le-ltb x p q)) (below-has p us u k l)
      ]
    ]

pub below-from : (p : ℕ) (us : List ℕ) (u : ℕ) → Has (filter (λ x. nat_lt x p) us) u → (u < p) × Has us u
below-from p [] u h = absurd (Has-none u h)
below-from p (x ∷ us) u h =
    let F = filter (λ y. nat_lt y p) us in
    elim (cases_lt x p) [
      | inl q ↦ elim (Has-head x u F (subst (λ (b : Bool). Has (cond b (x ∷ F) F) u) (lt-ltb x p q) h)) [
        | inl e ↦ (omega arith, subst (λ (z : ℕ). Has (x ∷ us) z) e (Has-here x us))
        | inr k ↦ (let r = below-from p us u k in (r.0, Has-later x u us r.1))
      ]
      | inr q ↦ (let r = below-from p us u (subst (λ (b : Bool). Has (cond b (x ∷ F) F) u) (le-ltb x p q) h) in (r.0, Has-later x u us r.1))
    ]

pub below-all : (p : ℕ) (us : List ℕ) → ((u : ℕ) → Has us u → u < p) → filter (λ x. nat_lt x p) us ≡ us
below-all p [] h = refl
below-all p (x ∷ us) h =
    let F = filter (λ y. nat_lt y p) us in
    ap (λ (b : Bool). cond b (x ∷ F) F) (lt-ltb x p (h x (Has-here x us))) ∙ ap (λ y. x ∷ y) (below-all p us (λ u k. h u (Has-later x u us k)))

abbrev pub lower : List PlainStatement → ℕ → List ℕ
lower g p = filter (λ x. nat_lt x p) (used_at g p)

-- flat_map

pub flat-has : (f : ℕ → List ℕ) (us : List ℕ) (u j : ℕ) → Has us u → Has (f u) j → Has (flat_map f us) j
flat-has f [] u j h k = absurd (Has-none u h)
flat-has f (x ∷ us) u j h k = elim (Has-head x u us h) [
  | inl e ↦ Has-left (f x) (flat_map f us) j (subst (λ (z : ℕ). Has (f z) j) (sym e) k)
  | inr q ↦ Has-right (f x) (flat_map f us) j (flat-has f us u j q k)
]

pub flat-from : (f : ℕ → List ℕ) (us : List ℕ) (j : ℕ) → Has (flat_map f us) j → (u : ℕ) × Has us u × Has (f u) j
flat-from f [] j h = absurd (Has-none j h)
flat-from f (x ∷ us) j h = elim (Has-cases (f x) (flat_map f us) j h) [
  | inl a ↦ (x, Has-here x us, a)
  | inr b ↦ (let r = flat-from f us j b in (r.0, Has-later x r.0 us r.1, r.2))
]

flat-same : (f h : ℕ → List ℕ) (us : List ℕ) → ((u : ℕ) → Has us u → f u ≡ h u) → flat_map f us ≡ flat_map h us
flat-same f h [] e = refl
flat-same f h (x ∷ us) e =
    ap (λ y. y ++ flat_map f us) (e x (Has-here x us)) ∙ ap (λ y. h x ++ y) (flat-same f h us (λ u k. e u (Has-later x u us k)))

-- the depth of an unfolding

unfold-enough : (g : List PlainStatement) (n m p : ℕ) → p < n → p < m → unfold_to g n p ≡ unfold_to g m p
unfold-enough g zero m p a b = absurd (omega arith)
unfold-enough g (suc n) zero p a b = absurd (omega arith)
unfold-enough g (suc n) (suc m) p a b =
    ap (λ x. x ++ p ∷ []) (flat-same (unfold_to g n) (unfold_to g m) (lower g p) (λ u h.
    let l = below-from p (used_at g p) u h in unfold-enough g n m u (omega arith) (omega arith)))

unfold-is : (g : List PlainStatement) (p : ℕ) → ((u : ℕ) → Has (used_at g p) u → u < p) →
    unfolding_of g p ≡ flat_map (unfolding_of g) (used_at g p) ++ p ∷ []
unfold-is g p h =
    ap (λ x. x ++ p ∷ []) (ap (λ x. flat_map (unfold_to g p) x) (below-all p (used_at g p) h)
    ∙ flat-same (unfold_to g p) (unfolding_of g) (used_at g p) (λ u k. unfold-enough g p (suc u) u (h u k) (omega arith)))

pub unfold-self : (g : List PlainStatement) (n p : ℕ) → p < n → Has (unfold_to g n p) p
unfold-self g zero p h = absurd (omega arith)
unfold-self g (suc n) p h = Has-right (flat_map (unfold_to g n) (lower g p)) (p ∷ []) p (Has-here p [])

-- a list that has the lower uses of what it has has unfoldings whole
unfold-inside : (g : List PlainStatement) (ids : List ℕ) → ((i u : ℕ) → Has ids i → Has (lower g i) u → Has ids u) →
    (n p : ℕ) → Has ids p → (j : ℕ) → Has (unfold_to g n p) j → Has ids j
unfold-inside g ids c zero p h j k = absurd (Has-none j k)
unfold-inside g ids c (suc n) p h j k = elim (Has-cases (flat_map (unfold_to g n) (lower g p)) (p ∷ []) j k) [
  | inl a ↦ (let r = flat-from (unfold_to g n) (lower g p) j a in unfold-inside g ids c n r.0 (c p r.0 h r.1) j r.2)
  | inr b ↦ elim (Has-head p j [] b) [ inl e ↦ subst (λ (z : ℕ). Has ids z) e h | inr q ↦ absurd (Has-none j q) ]
]

-- each occurs after its lower uses that are not known before
unfoldable pub Steady : List PlainStatement → List ℕ → List ℕ → Type 0
Steady g known [] = Unit {0}
Steady g known (x ∷ xs) = ((u : ℕ) → Has (lower g x) u → Has known u) × Steady g (known ++ x ∷ []) xs

pub steady_more : (g : List PlainStatement) (k k' xs : List ℕ) → ((j : ℕ) → Has k j → Has k' j) → Steady g k xs → Steady g k' xs
unfolding Steady
steady_more g k k' [] h s = tt
steady_more g k k' (x ∷ xs) h s = (
  (λ u a. h u (s.0 u a)),
  steady_more g (k ++ x ∷ []) (k' ++ x ∷ []) xs (λ j a. elim (Has-cases k (x ∷ []) j a) [
    | inl b ↦ Has-left k' (x ∷ []) j (h j b)
    | inr b ↦ Has-right k' (x ∷ []) j b
  ]) s.1,
)

steady_rest : (g : List PlainStatement) (k xs ys : List ℕ) → Steady g k (xs ++ ys) → Steady g (k ++ xs) ys
unfolding Steady
steady_rest g k [] ys s = subst (λ (z : List ℕ). Steady g z ys) (sym (append-nil k)) s
steady_rest g k (x ∷ xs) ys s =
    subst (λ (z : List ℕ). Steady g z ys) (append_assoc k (x ∷ []) xs) (steady_rest g (k ++ x ∷ []) xs ys s.1)

steady_known : (g : List PlainStatement) (k xs ys : List ℕ) → ((j : ℕ) → Has xs j → Has k j) → Steady g k (xs ++ ys) → Steady g k ys
steady_known g k xs ys h s =
    steady_more g (k ++ xs) k ys (λ j a. elim (Has-cases k xs j a) [ inl b ↦ b | inr b ↦ h j b ]) (steady_rest g k xs ys s)

pub steady_push : (g : List PlainStatement) (k xs : List ℕ) (i : ℕ) → Steady g k xs → ((u : ℕ) → Has (lower g i) u → Has (k ++ xs) u) → Steady g k (xs ++ i ∷ [])
unfolding Steady
steady_push g k [] i s h = ((λ u a. subst (λ (z : List ℕ). Has z u) (append-nil k) (h u a)), tt)
steady_push g k (x ∷ xs) i s h =
    (s.0, steady_push g (k ++ x ∷ []) xs i s.1 (λ u a. subst (λ (z : List ℕ). Has z u) (sym (append_assoc k (x ∷ []) xs)) (h u a)))

pub steady_has : (g : List PlainStatement) (k xs : List ℕ) → Steady g k xs → (i u : ℕ) → Has xs i → Has (lower g i) u → Has (k ++ xs) u
unfolding Steady
steady_has g k [] s i u h l = absurd (Has-none i h)
steady_has g k (x ∷ xs) s i u h l = elim (Has-head x i xs h) [
  | inl e ↦ Has-left k (x ∷ xs) u (s.0 u (subst (λ (z : ℕ). Has (lower g z) u) (sym e) l))
  | inr q ↦ subst (λ (z : List ℕ). Has z u) (append_assoc k (x ∷ []) xs) (steady_has g (k ++ x ∷ []) xs s.1 i u q l)
]

pub steady_flat : (g : List PlainStatement) (f : ℕ → List ℕ) (us k rest : List ℕ) →
    ((u : ℕ) (k' rest' : List ℕ) → Has us u → Steady g (k' ++ f u) rest' → Steady g k' (f u ++ rest')) →
    Steady g (k ++ flat_map f us) rest → Steady g k (flat_map f us ++ rest)
steady_flat g f [] k rest h s = subst (λ (z : List ℕ). Steady g z rest) (append-nil k) s
steady_flat g f (x ∷ us) k rest h s =
    subst (λ (z : List ℕ). Steady g k z) (sym (append_assoc (f x) (flat_map f us) rest))
    (h x k (flat_map f us ++ rest) (Has-here x us)
    (steady_flat g f us (k ++ f x) rest (λ u k' r' a. h u k' r' (Has-later x u us a))
    (subst (λ (z : List ℕ). Steady g z rest) (sym (append_assoc k (f x) (flat_map f us))) s)))

pub steady_unfold : (g : List PlainStatement) (n p : ℕ) → p < n → (k rest : List ℕ) → Steady g (k ++ unfold_to g n p) rest → Steady g k (unfold_to g n p ++ rest)
unfolding Steady
steady_unfold g zero p h k rest s = absurd (omega arith)
steady_unfold g (suc n) p h k rest s =
    let F = flat_map (unfold_to g n) (lower g p) in
    subst (λ (z : List ℕ). Steady g k z) (sym (append_assoc F (p ∷ []) rest))
    (steady_flat g (unfold_to g n) (lower g p) k (p ∷ rest)
    (λ u k' r' a. let l = below-from p (used_at g p) u a in steady_unfold g n u (omega arith) k' r') (
      (λ u a. let l = below-from p (used_at g p) u a in
          Has-right k F u (flat-has (unfold_to g n) (lower g p) u u a (unfold-self g n u (omega arith)))),
      subst (λ (z : List ℕ). Steady g z rest) (sym (append_assoc k F (p ∷ []))) s,
    ))

-- what `with_new` adds

with_known : (k xs ys : List ℕ) → ((j : ℕ) → Has xs j → Has k j) → with_new k (xs ++ ys) ≡ with_new k ys
unfolding with_new
with_known k [] ys h = refl
with_known k (x ∷ xs) ys h =
    ap (λ (b : Bool). with_new (cond b k (k ++ x ∷ [])) (xs ++ ys)) (has_true k x (h x (Has-here x xs)))
    ∙ with_known k xs ys (λ j a. h j (Has-later x j xs a))

with_one : (k xs : List ℕ) (i : ℕ) → (Has k i → ⊥) → with_new k (i ∷ xs) ≡ with_new (k ++ i ∷ []) xs
unfolding with_new
with_one k xs i h = ap (λ (b : Bool). with_new (cond b k (k ++ i ∷ [])) xs) (has_false k i h)

-- the stack

-- the positions still to be yielded: the top first, each trace entry whole
unfoldable pub yields : List PlainStatement → List Step → List ℕ
yields g [] = []
yields g (trace i ∷ s) = unfolding_of g i ++ yields g s
yields g (finish i ∷ s) = i ∷ yields g s

yields-uses : (g : List PlainStatement) (us : List ℕ) (s : List Step) → yields g (map (λ u. trace u) us ++ s) ≡ flat_map (unfolding_of g) us ++ yields g s
unfolding yields
yields-uses g [] s = refl
yields-uses g (u ∷ us) s =
    ap (λ x. unfolding_of g u ++ x) (yields-uses g us s) ∙ sym (append_assoc (unfolding_of g u) (flat_map (unfolding_of g) us) (yields g s))

-- above an entry that waits there are lower ones
unfoldable pub Ordered : List Step → Type 0
Ordered [] = Unit {0}
Ordered (trace i ∷ s) = ((f : ℕ) → Has (waiting s) f → i < f) × Ordered s
Ordered (finish i ∷ s) = ((f : ℕ) → Has (waiting s) f → i < f) × Ordered s

ordered_uses : (us : List ℕ) (s : List Step) (i : ℕ) → ((u : ℕ) → Has us u → u < i) → ((f : ℕ) → Has (waiting s) f → i < f) → Ordered s →
    Ordered (map (λ u. trace u) us ++ finish i ∷ s)
unfolding Ordered waiting
ordered_uses [] s i h k o = (k, o)
ordered_uses (u ∷ us) s i h k o = (
  (λ f a. let l = h u (Has-here u us) in
      elim (Has-head i f (waiting s) (subst (λ (z : List ℕ). Has z f) (waiting-uses us (finish i ∷ s)) a)) [
        | inl e ↦ omega arith
        | inr b ↦ (let q = k f b in omega arith)
      ]),
  ordered_uses us s i (λ v a. h v (Has-later u v us a)) k o,
)

pub apart : (xs : List ℕ) (i : ℕ) (ys : List ℕ) → Distinct (xs ++ i ∷ ys) → Has xs i → ⊥
apart [] i ys d h = Has-none i h
apart (x ∷ xs) i ys d h = elim (Has-head x i xs h) [
  | inl e ↦ d.0 (subst (λ (z : ℕ). Has (xs ++ i ∷ ys) z) (sym e) (Has-right xs (i ∷ ys) i (Has-here i ys)))
  | inr q ↦ apart xs i ys d.1 q
]

with-join : (k xs ys : List ℕ) → with_new k (xs ++ ys) ≡ with_new (with_new k xs) ys
unfolding with_new
with-join k [] ys = refl
with-join k (x ∷ xs) ys = with-join (cond (has k x) k (k ++ x ∷ [])) xs ys

pub flat-join : (f : ℕ → List ℕ) (xs ys : List ℕ) → flat_map f (xs ++ ys) ≡ flat_map f xs ++ flat_map f ys
flat-join f [] ys = refl
flat-join f (x ∷ xs) ys = ap (λ z. f x ++ z) (flat-join f xs ys) ∙ sym (append_assoc (f x) (flat_map f xs) (flat_map f ys))

fewer : (g : List PlainStatement) (w : List ℕ) (i : ℕ) → Below g (w ++ i ∷ []) → Below g w
fewer g w i ub = λ v u n h. ub v u (needed_more (λ j a. Has-left w (i ∷ []) j a) n) h

-- the invariant: the finished positions, and the positions still to be yielded, give the printed order
pub record Sorted (g : List PlainStatement) (w : List ℕ) (s : List Step) (ids : List ℕ) : Type 0 where
  pub ordered : Ordered s
  pub yielded : with_new ids (yields g s) ≡ gathered g w
  pub steady : Steady g ids (yields g s)
  pub before : Steady g [] ids

sorted : {g : List PlainStatement} {w : List ℕ} {s : List Step} {m : List Bool} {ids : List ℕ} {t : ℕ} →
    Below g w → Reached g w s m ids t → Sorted g w s ids
unfolding Ordered yields Steady traces waiting with_new
sorted {g = g} ub start = record { ordered = tt; yielded = refl; steady = tt; before = tt }
sorted {g = g} ub (walk {i = i} {t = t} {walks = w} {m = m} {ids = ids} r) =
    let o = sorted (fewer g w i ub) r in
    record {
      ordered = ((λ f a. absurd (Has-none f a)), tt);
      yielded = ap (λ x. with_new x (unfolding_of g i ++ [])) o.yielded
          ∙ sym (with-join [] (flat_map (unfolding_of g) w) (unfolding_of g i ++ []))
          ∙ ap (λ x. with_new [] x) (sym (flat-join (unfolding_of g) w (i ∷ [])));
      steady = steady_unfold g (suc i) i (omega arith) ids [] tt;
      before = o.before;
    }
sorted {g = g} ub (dropped {i = i} {t = t} {walks = w} {s = s} {m = m} {ids = ids} r f) =
    let k = kept r in
    let o = sorted ub r in
    let here : Has ids i = elim (Has-cases ids (waiting s) i (k.marked_held i f)) [
      | inl a ↦ a
      | inr b ↦ (let q = o.ordered.0 i b in absurd (omega arith))
    ] in
    let all : (j : ℕ) → Has (unfolding_of g i) j → Has ids j =
    unfold-inside g ids (steady_has g [] ids o.before) (suc i) i here in
    record {
      ordered = o.ordered.1;
      yielded = sym (with_known ids (unfolding_of g i) (yields g s) all) ∙ o.yielded;
      steady = steady_known g ids (unfolding_of g i) (yields g s) all o.steady;
      before = o.before;
    }
sorted {g = g} ub (entered {i = i} {t = t} {walks = w} {s = s} {m = m} {ids = ids} r h f) =
    let k = kept r in
    let o = sorted ub r in
    let me : Needed g w i = k.traced_needed i (Has-here i (traces s)) in
    let low : (u : ℕ) → Has (used_at g i) u → u < i = λ u a. ub i u me a in
    let y : yields g (map (λ u. trace u) (used_at g i) ++ finish i ∷ s) ≡ unfolding_of g i ++ yields g s =
    yields-uses g (used_at g i) (finish i ∷ s)
    ∙ sym (append_assoc (flat_map (unfolding_of g) (used_at g i)) (i ∷ []) (yields g s))
    ∙ ap (λ x. x ++ yields g s) (sym (unfold-is g i low)) in
    record {
      ordered = ordered_uses (used_at g i) s i low o.ordered.0 o.ordered.1;
      yielded = ap (λ x. with_new ids x) y ∙ o.yielded;
      steady = subst (λ (z : List ℕ). Steady g ids z) (sym y) o.steady;
      before = o.before;
    }
sorted {g = g} ub (finished {i = i} {t = t} {walks = w} {s = s} {m = m} {ids = ids} r) =
    let k = kept r in
    let o = sorted ub r in
    let new : Has ids i → ⊥ = apart ids i (waiting s) k.distinct in
    record {
      ordered = o.ordered.1;
      yielded = sym (with_one ids (yields g s) i new) ∙ o.yielded;
      steady = o.steady.1;
      before = steady_push g [] ids i o.before o.steady.0;
    }

pub over_printed : {g : List PlainStatement} {w : List ℕ} {m : List Bool} {ids : List ℕ} {t : ℕ} → Below g w → Reached g w [] m ids t → ids ≡ order_of_walks g w
unfolding yields with_new
over_printed {g = g} {w = w} ub r = (sorted ub r).yielded ∙ sym (printed-is g w)

-- where an element of a steady list occurs, its lower uses occur before it
steady-at : (g : List PlainStatement) (k front back : List ℕ) (i u : ℕ) → Steady g k (front ++ i ∷ back) → Has (lower g i) u → Has (k ++ front) u
unfolding Steady
steady-at g k [] back i u s h = subst (λ (z : List ℕ). Has z u) (sym (append-nil k)) (s.0 u h)
steady-at g k (x ∷ front) back i u s h =
    subst (λ (z : List ℕ). Has z u) (append_assoc k (x ∷ []) front) (steady-at g (k ++ x ∷ []) front back i u s.1 h)

pub over_after : {g : List PlainStatement} {w : List ℕ} {m : List Bool} {ids : List ℕ} {t : ℕ} → Below g w → Reached g w [] m ids t → EachAfterItsUses g ids
unfolding traces waiting
over_after {g = g} {w = w} {ids = ids} ub r front back i u e h =
    let n : Needed g w i = (kept r).held_needed i (Has-left ids [] i
    (subst (λ (z : List ℕ). Has z i) (sym e) (Has-right front (i ∷ back) i (Has-here i back)))) in
    steady-at g [] front back i u (subst (λ (z : List ℕ). Steady g [] z) e (sorted ub r).before) (below-has i (used_at g i) u h (ub i u n h))
