-- Two well formed items have one renumbered item if and only if they are the same graph.
use Rattle.std.proofs.Common.{◌≡◌, ℕ, zero, suc, ◌<◌, ◌++◌, inl, inr, length, map, List, [], ◌∷◌, Bool, true, false, cond, Option, Some, None, refl, sym, ap, ◌∙◌, subst, arith, get_or, append_assoc}
use Rattle.std.specs.List.{flat_map, filter, slice_get}
use Rattle.std.proofs.lemmas.List.{map-append, length-map, length_push, get_or-map, ext_get_or}
use Rattle.souper_graph.specs.Values.{PlainStatement, Ending, Item}
use Rattle.souper_graph.specs.Uses.{Has, Use, value_use, block_use, position_of, uses_of, uses_of_optional, uses_at, used_at, is_condition, conditions_from, conditions, first_roots, last_roots, roots_of, walks_of, walked, used, NeededIn, UsesBelow}
use Rattle.souper_graph.specs.Order.{unfold_to, unfolding_of, order_of_walks, printed_order, Distinct, EachAfterItsUses}
use Rattle.souper_graph.specs.WellFormed.{FitsEnding, predecessors_of, predecessors_at, Closed, WellFormed, IsAssigned, IsBlock, IsMet}
use Rattle.souper_graph.specs.Sameness.{carried, carried_ending, carried_optional, SameGraph, place, renumbered, OrdersNeeded}
use Rattle.souper_graph.specs.Unneeded.{SameNeeded}
use Rattle.souper_graph.proofs.Order.Firsts.{with_new, printed-is}
use Rattle.souper_graph.proofs.Lists.{Has-right, Has-none, Has-here, Has-later, Has-head, Has-map, Has-mapped}
use Rattle.souper_graph.proofs.Order.Sorted.{below-all, lower, apart}
use Rattle.souper_graph.proofs.Sameness.Carrying.{map-same, map-map, carried_use, positions-carried, uses-carried, first-carried, last-carried, roots-carried, carried-same, ending-same, carried-twice, ending-twice, carried-itself, ending-itself, carried-still, ending-still, condition-carried, is_assigned-carried, is_block-carried, predecessors-carried, named-carried, fits-carried, fits_ending-carried, agrees-carried}
use Rattle.souper_graph.proofs.Sameness.Indices.{flat-map, with-has, with-map, filter-map, place-inside, at-place, Has-at, place-at, place-map, place-joined, place-front}
use Rattle.souper_graph.proofs.Judging.Needed.{stood, statement_at, stands, uses-stood, met-stands, first_of, last_of, in-conditions, root-walked, use-needed, well_formed_below, well_formed_inside, well_formed_stands}
use Rattle.souper_graph.proofs.Sameness.PrintedOrder.{printed-needed, needed-printed, printed-once, use-place, conditions-printed, condition_at, is-condition, condition-holds, Increasing, from-increasing, same-increasing}

-- what a map of the same graph says of the statements at two positions

-- each needed position has a statement, which uses lower positions alone
pub record Ordered (a : Item) : Type 0 where
  pub below : UsesBelow a
  pub there : (i : ℕ) → NeededIn a i → slice_get a.statements i ≡ Some (statement_at a.statements i)

pub ordered : (a : Item) → WellFormed a → Ordered a
ordered a wa = record { below = well_formed_below a wa; there = well_formed_stands a wa }

pub contents-at : (a b : Item) → Ordered a → (s : SameGraph a b) → (i : ℕ) → NeededIn a i →
    statement_at b.statements (s.to i) ≡ carried s.to (statement_at a.statements i)
contents-at a b oa s i d = ap stood (s.contents i (statement_at a.statements i) d (oa.there i d))

pub condition-at : (a b : Item) (f : ℕ → ℕ) (i j : ℕ) → statement_at b.statements j ≡ carried f (statement_at a.statements i) →
    condition_at b j ≡ condition_at a i
condition-at a b f i j e = ap is_condition e ∙ condition-carried f (statement_at a.statements i)

pub used-carried : (a b : Item) (f : ℕ → ℕ) (i j : ℕ) → statement_at b.statements j ≡ carried f (statement_at a.statements i) →
    used_at b.statements j ≡ map f (used_at a.statements i)
used-carried a b f i j e =
    ap (λ (z : List Use). map position_of z) (
    uses-stood (slice_get b.statements j) ∙ ap uses_of e ∙ uses-carried f (statement_at a.statements i)
    ∙ ap (λ (z : List Use). map (carried_use f) z) (sym (uses-stood (slice_get a.statements i))))
    ∙ positions-carried f (uses_at a.statements i)

-- what a needed statement uses is needed
pub stood-needed : (a : Item) (i : ℕ) → NeededIn a i → (u : Use) → Has (uses_of (statement_at a.statements i)) u → NeededIn a (position_of u)
stood-needed a i d u h = use-needed a i u d (subst (λ (z : List Use). Has z u) (sym (uses-stood (slice_get a.statements i))) h)

-- same graph, so the same printed order

pub unfold-carried : (a b : Item) → Ordered a → Ordered b → (s : SameGraph a b) → (n m i : ℕ) → i < n → s.to i < m → NeededIn a i →
    unfold_to b.statements m (s.to i) ≡ map s.to (unfold_to a.statements n i)
unfold-carried a b oa ob s zero m i h k d = absurd (omega arith)
unfold-carried a b oa ob s (suc n) zero i h k d = absurd (omega arith)
unfold-carried a b oa ob s (suc n) (suc m) i h k d =
    let ue : used_at b.statements (s.to i) ≡ map s.to (used_at a.statements i) = used-carried a b s.to i (s.to i) (contents-at a b oa s i d) in
    let ua : lower a.statements i ≡ used_at a.statements i = below-all i (used_at a.statements i) (λ u q. oa.below i u d q) in
    let ub : lower b.statements (s.to i) ≡ map s.to (used_at a.statements i) =
    below-all (s.to i) (used_at b.statements (s.to i)) (λ u q. ob.below (s.to i) u (s.needed i d) q) ∙ ue in
    let inner : flat_map (unfold_to b.statements m) (map s.to (used_at a.statements i)) ≡ map s.to (flat_map (unfold_to a.statements n) (used_at a.statements i)) =
    flat-map s.to (unfold_to a.statements n) (unfold_to b.statements m) (used_at a.statements i) (λ u q.
    let la = oa.below i u d q in
    let inb : Has (used_at b.statements (s.to i)) (s.to u) =
    subst (λ (z : List ℕ). Has z (s.to u)) (sym ue) (Has-map s.to (used_at a.statements i) u q) in
    let lb = ob.below (s.to i) (s.to u) (s.needed i d) inb in
    unfold-carried a b oa ob s n m u (omega arith) (omega arith) (used d q)) in
    ap (λ z. flat_map (unfold_to b.statements m) z ++ s.to i ∷ []) ub
    ∙ ap (λ z. z ++ s.to i ∷ []) inner
    ∙ sym (map-append s.to (flat_map (unfold_to a.statements n) (used_at a.statements i)) (i ∷ []))
    ∙ ap (λ z. map s.to (flat_map (unfold_to a.statements n) z ++ i ∷ [])) (sym ua)

pub has-all : (a : Item) (w : List ℕ) (i : ℕ) → Has (flat_map (unfolding_of a.statements) w) i → Has (order_of_walks a.statements w) i
has-all a w i h =
    subst (λ (z : List ℕ). Has z i) (sym (printed-is a.statements w)) (with-has [] (flat_map (unfolding_of a.statements) w) i (inr h))

pub increasing-map : (f : ℕ → ℕ) (xs : List ℕ) → Increasing xs → ((i j : ℕ) → Has xs i → Has xs j → i < j → f i < f j) → Increasing (map f xs)
unfolding Increasing
increasing-map f [] a h = tt
increasing-map f (x ∷ xs) a h = (
  (λ j q. let r = Has-mapped f xs j q in
      let l = h x r.0 (Has-here x xs) (Has-later x r.0 xs r.1) (a.0 r.0 r.1) in let e = r.2 in omega arith),
  increasing-map f xs a.1 (λ i j p q l. h i j (Has-later x i xs p) (Has-later x j xs q) l),
)

map-increasing : (f : ℕ → ℕ) (xs : List ℕ) → Increasing xs → Increasing (map f xs) → (i j : ℕ) → Has xs i → Has xs j → i < j → f i < f j
unfolding Increasing
map-increasing f [] a b i j p q l = absurd (Has-none i p)
map-increasing f (x ∷ xs) a b i j p q l = elim (Has-head x j xs q) [
  | inl e ↦ elim (Has-head x i xs p) [ inl d ↦ absurd (omega arith) | inr r ↦ (let m = a.0 i r in absurd (omega arith)) ]
  | inr t ↦ elim (Has-head x i xs p) [
    | inl d ↦ subst (λ (z : ℕ). f z < f j) d (b.0 (f j) (Has-map f xs j t))
    | inr r ↦ map-increasing f xs a.1 b.1 i j r t l
  ]
]

-- the path conditions are carried, in order, to the path conditions
pub conditions-carried : (a b : Item) → Ordered a → (s : SameGraph a b) → conditions b ≡ map s.to (conditions a)
conditions-carried a b oa s =
    same-increasing (conditions b) (map s.to (conditions a)) (from-increasing 0 b.statements)
    (increasing-map s.to (conditions a) (from-increasing 0 a.statements) s.condition_order)
    (λ j h.
    let r = s.onto j (walked (in-conditions b j h)) in
    let e : condition_at a r.0 ≡ true =
    sym (condition-at a b s.to r.0 (s.to r.0) (contents-at a b oa s r.0 r.1)) ∙ ap (λ z. condition_at b z) r.2 ∙ condition-holds b j h in
    subst (λ (z : ℕ). Has (map s.to (conditions a)) z) r.2 (Has-map s.to (conditions a) r.0 (is-condition a r.0 e)))
    (λ j h.
    let r = Has-mapped s.to (conditions a) j h in
    let e : condition_at b j ≡ true =
    ap (λ z. condition_at b z) (sym r.2) ∙ condition-at a b s.to r.0 (s.to r.0) (contents-at a b oa s r.0 (walked (in-conditions a r.0 r.1)))
    ∙ condition-holds a r.0 r.1 in
    is-condition b j e)

walks-map : (f : ℕ → ℕ) (x y z x' y' z' : List ℕ) → x' ≡ map f x → y' ≡ map f y → z' ≡ map f z → (x' ++ y') ++ z' ≡ map f ((x ++ y) ++ z)
walks-map f x y z x' y' z' a b c =
    ap (λ q. (q ++ y') ++ z') a ∙ ap (λ q. (map f x ++ q) ++ z') b ∙ ap (λ q. (map f x ++ map f y) ++ q) c
    ∙ ap (λ q. q ++ map f z) (sym (map-append f x y)) ∙ sym (map-append f (x ++ y) z)

pub walks-carried : (a b : Item) (f : ℕ → ℕ) → b.ending ≡ carried_ending f a.ending → conditions b ≡ map f (conditions a) → walks_of b ≡ map f (walks_of a)
walks-carried a b f e c =
    walks-map f (first_of a) (conditions a) (last_of a) (first_of b) (conditions b) (last_of b)
    (ap (λ (d : Ending). map position_of (first_roots d)) e ∙ ap (λ (z : List Use). map position_of z) (first-carried f a.ending)
    ∙ positions-carried f (first_roots a.ending))
    c
    (ap (λ (d : Ending). map position_of (last_roots d)) e ∙ ap (λ (z : List Use). map position_of z) (last-carried f a.ending)
    ∙ positions-carried f (last_roots a.ending))

pub order-carried : (a b : Item) → Ordered a → Ordered b → (s : SameGraph a b) → printed_order b ≡ map s.to (printed_order a)
order-carried a b oa ob s =
    let w : walks_of b ≡ map s.to (walks_of a) = walks-carried a b s.to s.ending (conditions-carried a b oa s) in
    let inner : flat_map (unfolding_of b.statements) (map s.to (walks_of a)) ≡ map s.to (flat_map (unfolding_of a.statements) (walks_of a)) =
    flat-map s.to (unfolding_of a.statements) (unfolding_of b.statements) (walks_of a) (λ u q.
    unfold-carried a b oa ob s (suc u) (suc (s.to u)) u (omega arith) (omega arith) (walked q)) in
    printed-is b.statements (walks_of b)
    ∙ ap (λ z. with_new [] (flat_map (unfolding_of b.statements) z)) w
    ∙ ap (λ z. with_new [] z) inner
    ∙ with-map s.to (NeededIn a) [] (flat_map (unfolding_of a.statements) (walks_of a))
    (λ i h. absurd (Has-none i h))
    (λ i h. printed-needed a.statements (walks_of a) i (has-all a (walks_of a) i h))
    s.one_to_one
    ∙ ap (λ z. map s.to z) (sym (printed-is a.statements (walks_of a)))

-- the renumbered item, with a statement for each position of the printed order

pub inside : (a : Item) → WellFormed a → (i : ℕ) → NeededIn a i → Has (printed_order a) i
inside a wa i d = needed-printed a.statements (walks_of a) (well_formed_below a wa) d

pub needs : (a : Item) (i : ℕ) → Has (printed_order a) i → NeededIn a i
needs a i h = printed-needed a.statements (walks_of a) i h

abbrev pub numbered : Item → ℕ → PlainStatement
numbered a i = carried (place (printed_order a)) (statement_at a.statements i)

item_of : List PlainStatement → Ending → Item
item_of ss e = record { statements = ss; ending = e }

abbrev pub numbered_item : Item → Item
numbered_item a = record { statements = map (numbered a) (printed_order a); ending = carried_ending (place (printed_order a)) a.ending }

taken-is : (ss : List PlainStatement) (f : ℕ → ℕ) (xs : List ℕ) → ((i : ℕ) → Has xs i → i < length ss) →
    flat_map (λ (i : ℕ). carried_optional f (slice_get ss i)) xs ≡ map (λ (i : ℕ). carried f (statement_at ss i)) xs
taken-is ss f [] h = refl
taken-is ss f (x ∷ xs) h =
    ap (λ (o : Option PlainStatement). carried_optional f o ++ flat_map (λ (i : ℕ). carried_optional f (slice_get ss i)) xs) (stands ss x (h x (Has-here x xs)))
    ∙ ap (λ (z : List PlainStatement). carried f (statement_at ss x) ∷ z) (taken-is ss f xs (λ i q. h i (Has-later x i xs q)))

pub renumbered-is : (a : Item) → WellFormed a → renumbered a ≡ numbered_item a
unfolding item_of
renumbered-is a wa =
    ap (λ (z : List PlainStatement). item_of z (carried_ending (place (printed_order a)) a.ending))
    (taken-is a.statements (place (printed_order a)) (printed_order a) (λ i h. well_formed_inside a wa i (needs a i h)))

numbered-same : (a b : Item) → WellFormed a → WellFormed b → SameGraph a b → numbered_item a ≡ numbered_item b
unfolding item_of
numbered-same a b wa wb s =
    let P = printed_order a in
    let Q = printed_order b in
    let e : Q ≡ map s.to P = order-carried a b (ordered a wa) (ordered b wb) s in
    let at : (i : ℕ) → NeededIn a i → place Q (s.to i) ≡ place P i = λ i d.
    ap (λ z. place z (s.to i)) e ∙ place-map s.to P i (λ j h q. s.one_to_one j i (needs a j h) d q) in
    let one : (i : ℕ) → Has P i → numbered a i ≡ numbered b (s.to i) = λ i h.
    let d = needs a i h in
    carried-same (place P) (λ u. place Q (s.to u)) (statement_at a.statements i) (λ u q. sym (at (position_of u) (stood-needed a i d u q)))
    ∙ sym (carried-twice s.to (place Q) (statement_at a.statements i))
    ∙ ap (λ (z : PlainStatement). carried (place Q) z) (sym (contents-at a b (ordered a wa) s i d)) in
    let st : map (numbered a) P ≡ map (numbered b) Q =
    map-same (numbered a) (λ i. numbered b (s.to i)) P one ∙ sym (map-map s.to (numbered b) P) ∙ ap (λ z. map (numbered b) z) (sym e) in
    let en : carried_ending (place P) a.ending ≡ carried_ending (place Q) b.ending =
    ending-same (place P) (λ u. place Q (s.to u)) a.ending (λ u q. sym (at (position_of u) (root-walked a u q)))
    ∙ sym (ending-twice s.to (place Q) a.ending)
    ∙ ap (λ (z : Ending). carried_ending (place Q) z) (sym s.ending) in
    ap (λ (z : List PlainStatement). item_of z (carried_ending (place P) a.ending)) st ∙ ap (λ (z : Ending). item_of (map (numbered b) Q) z) en

pub renumbered-same : (a b : Item) → WellFormed a → WellFormed b → SameGraph a b → renumbered a ≡ renumbered b
renumbered-same a b wa wb s = renumbered-is a wa ∙ numbered-same a b wa wb s ∙ sym (renumbered-is b wb)

-- one renumbered item, so the same graph

-- the statement of b that has in its printed order the index of a's statement i
abbrev across : Item → Item → ℕ → ℕ
across a b i = get_or (printed_order b) (place (printed_order a) i) 0

orders-long : (a b : Item) → numbered_item a ≡ numbered_item b → length (printed_order a) ≡ length (printed_order b)
orders-long a b e =
    sym (length-map (printed_order a) (numbered a)) ∙ ap (λ (x : Item). length x.statements) e ∙ length-map (printed_order b) (numbered b)

across-has : (a b : Item) → WellFormed a → numbered_item a ≡ numbered_item b → (i : ℕ) → NeededIn a i → place (printed_order a) i < length (printed_order b)
across-has a b wa e i d =
    subst (λ (z : ℕ). place (printed_order a) i < z) (orders-long a b e) (place-inside (printed_order a) i (inside a wa i d))

across-numbered : (a b : Item) → WellFormed a → numbered_item a ≡ numbered_item b → (i : ℕ) → NeededIn a i → numbered a i ≡ numbered b (across a b i)
across-numbered a b wa e i d =
    let k = place (printed_order a) i in
    let none : PlainStatement = stood None in
    let l : k < length (printed_order a) = place-inside (printed_order a) i (inside a wa i d) in
    let l' : k < length (printed_order b) = across-has a b wa e i d in
    ap (numbered a) (sym (at-place (printed_order a) i 0 (inside a wa i d))) ∙ sym (get_or-map (numbered a) (printed_order a) k 0 none l)
    ∙ ap (λ (x : Item). get_or x.statements k none) e ∙ get_or-map (numbered b) (printed_order b) k 0 none l'

-- each number goes back to the statement whose index it is
across-contents : (a b : Item) → WellFormed a → WellFormed b → numbered_item a ≡ numbered_item b → (i : ℕ) → NeededIn a i → NeededIn b (across a b i) →
    statement_at b.statements (across a b i) ≡ carried (across a b) (statement_at a.statements i)
across-contents a b wa wb e i d db =
    let back : ℕ → ℕ = λ k. get_or (printed_order b) k 0 in
    let j = across a b i in
    sym (carried-itself (λ u. back (place (printed_order b) u)) (statement_at b.statements j)
    (λ u q. at-place (printed_order b) (position_of u) 0 (inside b wb (position_of u) (stood-needed b j db u q))))
    ∙ sym (carried-twice (place (printed_order b)) back (statement_at b.statements j))
    ∙ ap (λ (z : PlainStatement). carried back z) (sym (across-numbered a b wa e i d))
    ∙ carried-twice (place (printed_order a)) back (statement_at a.statements i)

across-ending : (a b : Item) → WellFormed b → numbered_item a ≡ numbered_item b → b.ending ≡ carried_ending (across a b) a.ending
across-ending a b wb e =
    let back : ℕ → ℕ = λ k. get_or (printed_order b) k 0 in
    sym (ending-itself (λ u. back (place (printed_order b) u)) b.ending
    (λ u q. at-place (printed_order b) (position_of u) 0 (inside b wb (position_of u) (root-walked b u q))))
    ∙ sym (ending-twice (place (printed_order b)) back b.ending)
    ∙ ap (λ (x : Item). carried_ending back x.ending) (sym e)
    ∙ ending-twice (place (printed_order a)) back a.ending

across-order : (a b : Item) → numbered_item a ≡ numbered_item b → printed_order b ≡ map (across a b) (printed_order a)
across-order a b e =
    let q = orders-long a b e in
    ext_get_or 0 (printed_order b) (map (across a b) (printed_order a)) (sym q ∙ sym (length-map (printed_order a) (across a b)))
    (λ k h. let l : k < length (printed_order a) = subst (λ (z : ℕ). k < z) (sym q) h in
    sym (get_or-map (across a b) (printed_order a) k 0 0 l
    ∙ ap (λ z. get_or (printed_order b) z 0) (place-at (printed_order a) k 0 (printed_once a) l)))
  where
    printed_once : (a : Item) → Distinct (printed_order a)
    printed_once a = printed-once a.statements (walks_of a)

pub same-renumbered : (a b : Item) → WellFormed a → WellFormed b → renumbered a ≡ renumbered b → SameGraph a b
same-renumbered a b wa wb same =
    let e : numbered_item a ≡ numbered_item b = sym (renumbered-is a wa) ∙ same ∙ renumbered-is b wb in
    let P = printed_order a in
    let Q = printed_order b in
    let f = across a b in
    let len : length P ≡ length Q = orders-long a b e in
    let onceP : Distinct P = printed-once a.statements (walks_of a) in
    let onceQ : Distinct Q = printed-once b.statements (walks_of b) in
    let nd : (i : ℕ) → NeededIn a i → NeededIn b (f i) = λ i d. needs b (f i) (Has-at Q (place P i) 0 (across-has a b wa e i d)) in
    let ct : (i : ℕ) → NeededIn a i → statement_at b.statements (f i) ≡ carried f (statement_at a.statements i) =
    λ i d. across-contents a b wa wb e i d (nd i d) in
    let placed : (i : ℕ) → NeededIn a i → place Q (f i) ≡ place P i = λ i d. place-at Q (place P i) 0 onceQ (across-has a b wa e i d) in
    record {
      to = f;
      needed = nd;
      onto = λ j d.
          let k = place Q j in
          let l' : k < length P = subst (λ (z : ℕ). k < z) (sym len) (place-inside Q j (inside b wb j d)) in (
            get_or P k 0,
            needs a (get_or P k 0) (Has-at P k 0 l'),
            ap (λ z. get_or Q z 0) (place-at P k 0 onceP l') ∙ at-place Q j 0 (inside b wb j d),
          );
      one_to_one = λ i j di dj q.
          sym (at-place P i 0 (inside a wa i di)) ∙ ap (λ z. get_or P z 0) (sym (placed i di) ∙ ap (place Q) q ∙ placed j dj) ∙ at-place P j 0 (inside a wa j dj);
      contents = λ i s d q.
          well_formed_stands b wb (f i) (nd i d) ∙ ap (λ (z : PlainStatement). Some z) (ct i d ∙ ap (λ (o : Option PlainStatement). carried f (stood o)) q);
      ending = across-ending a b wb e;
      condition_order = map-increasing f (conditions a) (from-increasing 0 a.statements) (subst (λ (z : List ℕ). Increasing z) (
          sym (conditions-printed b wb) ∙ ap (λ z. filter (condition_at b) z) (across-order a b e)
          ∙ filter-map f (condition_at a) (condition_at b) P (λ i h. condition-at a b f i (f i) (ct i (needs a i h)))
          ∙ ap (λ z. map f z) (conditions-printed a wa)) (from-increasing 0 b.statements));
    }

-- an item and its renumbered item

statement_map : (h : ℕ → PlainStatement) (xs : List ℕ) (k : ℕ) → k < length xs → slice_get (map h xs) k ≡ Some (h (get_or xs k 0))
statement_map h [] k l = absurd (omega arith)
statement_map h (x ∷ xs) zero l = refl
statement_map h (x ∷ xs) (suc k) l = statement_map h xs k (omega arith)

pub numbered-at : (a : Item) → WellFormed a → (i : ℕ) → NeededIn a i → slice_get (numbered_item a).statements (place (printed_order a) i) ≡ Some (numbered a i)
numbered-at a wa i d =
    statement_map (numbered a) (printed_order a) (place (printed_order a) i) (place-inside (printed_order a) i (inside a wa i d))
    ∙ ap (λ (z : ℕ). Some (numbered a z)) (at-place (printed_order a) i 0 (inside a wa i d))

-- the conditions of the statements in the order of xs, which ends P
conditions-numbered : (a : Item) (P pre xs : List ℕ) → P ≡ pre ++ xs → Distinct P →
    conditions_from (length pre) (map (λ (i : ℕ). carried (place P) (statement_at a.statements i)) xs) ≡ map (place P) (filter (condition_at a) xs)
conditions-numbered a P pre [] e d = refl
conditions-numbered a P pre (x ∷ xs) e d =
    let D : List ℕ → Type 0 = λ z. Distinct z in
    let num : ℕ → PlainStatement = λ i. carried (place P) (statement_at a.statements i) in
    let rest : List ℕ = conditions_from (suc (length pre)) (map num xs) in
    let here : place P x ≡ length pre = ap (λ z. place z x) e ∙ place-joined pre x xs (apart pre x xs (subst D e d)) in
    let next : suc (length pre) ≡ length (pre ++ x ∷ []) = (let q = length_push pre x in omega arith) in
    let ih : rest ≡ map (place P) (filter (condition_at a) xs) =
    ap (λ k. conditions_from k (map num xs)) next ∙ conditions-numbered a P (pre ++ x ∷ []) xs (e ∙ sym (append_assoc pre (x ∷ []) xs)) d in
    ap (λ (b : Bool). cond b (length pre ∷ rest) rest) (condition-carried (place P) (statement_at a.statements x))
    ∙ ap (λ z. cond (condition_at a x) (length pre ∷ z) z) ih
    ∙ ap (λ z. cond (condition_at a x) (z ∷ map (place P) (filter (condition_at a) xs)) (map (place P) (filter (condition_at a) xs))) (sym here)
    ∙ under (condition_at a x)
  where
    under : (b : Bool) → cond b (place P x ∷ map (place P) (filter (condition_at a) xs)) (map (place P) (filter (condition_at a) xs))
        ≡ map (place P) (cond b (x ∷ filter (condition_at a) xs) (filter (condition_at a) xs))
    under true = refl
    under false = refl

numbered-conditions : (a : Item) → WellFormed a → conditions (numbered_item a) ≡ map (place (printed_order a)) (conditions a)
numbered-conditions a wa =
    conditions-numbered a (printed_order a) [] (printed_order a) refl (printed-once a.statements (walks_of a))
    ∙ ap (λ z. map (place (printed_order a)) z) (conditions-printed a wa)

numbered-walks : (a : Item) → WellFormed a → walks_of (numbered_item a) ≡ map (place (printed_order a)) (walks_of a)
numbered-walks a wa = walks-carried a (numbered_item a) (place (printed_order a)) refl (numbered-conditions a wa)

numbered-used : (a : Item) → WellFormed a → (i : ℕ) → NeededIn a i →
    used_at (numbered_item a).statements (place (printed_order a) i) ≡ map (place (printed_order a)) (used_at a.statements i)
numbered-used a wa i d =
    used-carried a (numbered_item a) (place (printed_order a)) i (place (printed_order a) i) (ap stood (numbered-at a wa i d))

pub numbered-needed : (a : Item) → WellFormed a → {i : ℕ} → NeededIn a i → NeededIn (numbered_item a) (place (printed_order a) i)
numbered-needed a wa {i = i} (walked h) =
    walked (subst (λ (z : List ℕ). Has z (place (printed_order a) i)) (sym (numbered-walks a wa)) (Has-map (place (printed_order a)) (walks_of a) i h))
numbered-needed a wa {i = i} (used {i = v} n h) =
    used (numbered-needed a wa n)
    (subst (λ (z : List ℕ). Has z (place (printed_order a) i)) (sym (numbered-used a wa v n)) (Has-map (place (printed_order a)) (used_at a.statements v) i h))

-- if a position of the renumbered item uses another, so do the statements whose indices they are
used-back : (a : Item) → WellFormed a → (i v j : ℕ) → NeededIn a i → place (printed_order a) i ≡ v → Has (used_at (numbered_item a).statements v) j →
    (u : ℕ) × Has (used_at a.statements i) u × (place (printed_order a) u ≡ j)
used-back a wa i v j d e h =
    let at : used_at (numbered_item a).statements v ≡ map (place (printed_order a)) (used_at a.statements i) =
    ap (λ z. used_at (numbered_item a).statements z) (sym e) ∙ numbered-used a wa i d in
    Has-mapped (place (printed_order a)) (used_at a.statements i) j (subst (λ (z : List ℕ). Has z j) at h)

numbered-onto : (a : Item) → WellFormed a → {j : ℕ} → NeededIn (numbered_item a) j → (i : ℕ) × NeededIn a i × (place (printed_order a) i ≡ j)
numbered-onto a wa {j = j} (walked h) =
    let r = Has-mapped (place (printed_order a)) (walks_of a) j (subst (λ (z : List ℕ). Has z j) (numbered-walks a wa) h) in (r.0, walked r.1, r.2)
numbered-onto a wa {j = j} (used {i = v} n h) =
    let o = numbered-onto a wa n in
    let r = used-back a wa o.0 v j o.1 o.2 h in (r.0, used o.1 r.1, r.2)

pub place-one : (a : Item) → WellFormed a → (i j : ℕ) → NeededIn a i → NeededIn a j → place (printed_order a) i ≡ place (printed_order a) j → i ≡ j
place-one a wa i j di dj q =
    sym (at-place (printed_order a) i 0 (inside a wa i di)) ∙ ap (λ z. get_or (printed_order a) z 0) q ∙ at-place (printed_order a) j 0 (inside a wa j dj)

place-increasing : (a : Item) → WellFormed a → (i j : ℕ) → Has (conditions a) i → Has (conditions a) j → i < j → place (printed_order a) i < place (printed_order a) j
place-increasing a wa =
    map-increasing (place (printed_order a)) (conditions a) (from-increasing 0 a.statements)
    (subst (λ (z : List ℕ). Increasing z) (numbered-conditions a wa) (from-increasing 0 (numbered_item a).statements))

numbered-graph : (a : Item) → WellFormed a → SameGraph a (numbered_item a)
numbered-graph a wa = record {
  to = place (printed_order a);
  needed = λ i d. numbered-needed a wa d;
  onto = λ j d. numbered-onto a wa d;
  one_to_one = place-one a wa;
  contents = λ i s d e.
      numbered-at a wa i d ∙ ap (λ (o : Option PlainStatement). Some (carried (place (printed_order a)) (stood o))) e;
  ending = refl;
  condition_order = place-increasing a wa;
}

pub renumbered-graph : (a : Item) → WellFormed a → SameGraph a (renumbered a)
renumbered-graph a wa = subst (λ (z : Item). SameGraph a z) (sym (renumbered-is a wa)) (numbered-graph a wa)

numbered-below : (a : Item) → WellFormed a → UsesBelow (numbered_item a)
numbered-below a wa v j d h =
    let o = numbered-onto a wa d in
    let r = used-back a wa o.0 v j o.1 o.2 h in
    let l = use-place a.statements (walks_of a) o.0 r.0 (well_formed_below a wa) o.1 r.1 in
    subst (λ (z : ℕ). z < v) r.2 (subst (λ (z : ℕ). place (printed_order a) r.0 < z) o.2 l)

-- the same graph as a well formed one, with uses below their users, is well formed

met-carried : (a b : Item) (s : SameGraph a b) (u : Use) → NeededIn a (position_of u) → IsMet a.statements u → IsMet b.statements (carried_use s.to u)
met-carried a b s (value_use i) d h =
    let r = met-stands a.statements (value_use i) h in
    subst (λ (o : Option PlainStatement). IsAssigned o) (sym (s.contents i r.0 d r.1))
    (is_assigned-carried s.to r.0 (subst (λ (o : Option PlainStatement). IsAssigned o) r.1 h))
met-carried a b s (block_use i) d h =
    let r = met-stands a.statements (block_use i) h in
    subst (λ (o : Option PlainStatement). IsBlock o) (sym (s.contents i r.0 d r.1))
    (is_block-carried s.to r.0 (subst (λ (o : Option PlainStatement). IsBlock o) r.1 h))

needed-predecessors-carried : (a b : Item) → WellFormed a → (s : SameGraph a b) (i : ℕ) → NeededIn a i → predecessors_at b.statements (s.to i) ≡ predecessors_at a.statements i
needed-predecessors-carried a b wa s i d =
    let t = statement_at a.statements i in
    let e : slice_get a.statements i ≡ Some t = well_formed_stands a wa i d in
    ap predecessors_of (s.contents i t d e) ∙ predecessors-carried s.to t ∙ sym (ap predecessors_of e)

closed-carried : (a b : Item) → WellFormed a → (s : SameGraph a b) → UsesBelow b → (i p : ℕ) → NeededIn a i → NeededIn b p →
    slice_get b.statements p ≡ Some (carried s.to (statement_at a.statements i)) → Closed b.statements p (carried s.to (statement_at a.statements i))
closed-carried a b wa s below i p d db e =
    let t = statement_at a.statements i in
    let c = wa.closed i t d (well_formed_stands a wa i d) in
    record {
      fits = fits-carried s.to t c.fits;
      below = λ u h. below p (position_of u) db (Has-map position_of (uses_at b.statements p) u
          (subst (λ (z : List Use). Has z u) (sym (ap (λ (o : Option PlainStatement). uses_of_optional o) e)) h));
      met = λ u h.
          let r = Has-mapped (carried_use s.to) (uses_of t) u (subst (λ (z : List Use). Has z u) (uses-carried s.to t) h) in
          subst (λ (z : Use). IsMet b.statements z) r.2 (met-carried a b s r.0 (stood-needed a i d r.0 r.1) (c.met r.0 r.1));
      agrees = agrees-carried s.to a.statements b.statements t (λ u h. needed-predecessors-carried a b wa s (position_of u) (stood-needed a i d u h)) c.agrees;
    }

graph-well : (a b : Item) → WellFormed a → SameGraph a b → UsesBelow b → WellFormed b
graph-well a b wa s below =
    let at : (i p : ℕ) → NeededIn a i → s.to i ≡ p → slice_get b.statements p ≡ Some (carried s.to (statement_at a.statements i)) =
    λ i p d e. ap (λ (z : ℕ). slice_get b.statements z) (sym e) ∙ s.contents i (statement_at a.statements i) d (well_formed_stands a wa i d) in
    let rooted : roots_of b.ending ≡ map (carried_use s.to) (roots_of a.ending) = ap roots_of s.ending ∙ roots-carried s.to a.ending in
    record {
      roots_met = λ u h.
          let r = Has-mapped (carried_use s.to) (roots_of a.ending) u (subst (λ (z : List Use). Has z u) rooted h) in
          subst (λ (z : Use). IsMet b.statements z) r.2 (met-carried a b s r.0 (root-walked a r.0 r.1) (wa.roots_met r.0 r.1));
      ending_fits = subst (λ (z : Ending). FitsEnding z) (sym s.ending) (fits_ending-carried s.to a.ending wa.ending_fits);
      closed = λ p t d e.
          let o = s.onto p d in
          let q : carried s.to (statement_at a.statements o.0) ≡ t = ap stood (sym (at o.0 p o.1 o.2) ∙ e) in
          subst (λ (z : PlainStatement). Closed b.statements p z) q (closed-carried a b wa s below o.0 p o.1 d (at o.0 p o.1 o.2));
      named_apart = λ p q v w dp dq ep eq en.
          let o = s.onto p dp in
          let r = s.onto q dq in
          let x = named-carried s.to (statement_at a.statements o.0) v (ap stood (sym (at o.0 p o.1 o.2) ∙ ep)) in
          let y = named-carried s.to (statement_at a.statements r.0) w (ap stood (sym (at r.0 q r.1 r.2) ∙ eq)) in
          let e : o.0 ≡ r.0 = wa.named_apart o.0 r.0 x.0 y.0 o.1 r.1
          (well_formed_stands a wa o.0 o.1 ∙ ap (λ (z : PlainStatement). Some z) x.1)
          (well_formed_stands a wa r.0 r.1 ∙ ap (λ (z : PlainStatement). Some z) y.1) (x.2 ∙ en ∙ sym y.2) in
          sym o.2 ∙ ap s.to e ∙ r.2;
    }

pub renumbered-well : (a : Item) → WellFormed a → WellFormed (renumbered a)
renumbered-well a wa =
    subst (λ (z : Item). WellFormed z) (sym (renumbered-is a wa)) (graph-well a (numbered_item a) wa (numbered-graph a wa) (numbered-below a wa))

pub renumbered-again : (a : Item) → WellFormed a → renumbered (renumbered a) ≡ renumbered a
renumbered-again a wa = sym (renumbered-same a (renumbered a) wa (renumbered-well a wa) (renumbered-graph a wa))

-- statements that are not needed do not matter

unneeded-walks : (a b : Item) → SameNeeded a b → walks_of b ≡ walks_of a
unneeded-walks a b s =
    ap (λ (e : Ending). (map position_of (first_roots e) ++ conditions b) ++ map position_of (last_roots e)) s.same_ending
    ∙ ap (λ (c : List ℕ). (first_of a ++ c) ++ last_of a) s.same_conditions

unneeded-used : (a b : Item) → SameNeeded a b → (i : ℕ) → NeededIn a i → used_at b.statements i ≡ used_at a.statements i
unneeded-used a b s i d = ap (λ (o : Option PlainStatement). map position_of (uses_of_optional o)) (s.same_statements i d)

unneeded-to : (a b : Item) → SameNeeded a b → {i : ℕ} → NeededIn a i → NeededIn b i
unneeded-to a b s {i = i} (walked h) = walked (subst (λ (z : List ℕ). Has z i) (sym (unneeded-walks a b s)) h)
unneeded-to a b s {i = i} (used {i = v} n h) = used (unneeded-to a b s n) (subst (λ (z : List ℕ). Has z i) (sym (unneeded-used a b s v n)) h)

unneeded-from : (a b : Item) → SameNeeded a b → {i : ℕ} → NeededIn b i → NeededIn a i
unneeded-from a b s {i = i} (walked h) = walked (subst (λ (z : List ℕ). Has z i) (unneeded-walks a b s) h)
unneeded-from a b s {i = i} (used {i = v} n h) =
    let d = unneeded-from a b s n in used d (subst (λ (z : List ℕ). Has z i) (unneeded-used a b s v d) h)

pub unneeded-graph : (a b : Item) → SameNeeded a b → SameGraph a b
unneeded-graph a b s = record {
  to = λ i. i;
  needed = λ i d. unneeded-to a b s d;
  onto = λ j d. (j, unneeded-from a b s d, refl);
  one_to_one = λ i j di dj q. q;
  contents = λ i t d e. s.same_statements i d ∙ e ∙ ap (λ (z : PlainStatement). Some z) (sym (carried-still t));
  ending = s.same_ending ∙ sym (ending-still a.ending);
  condition_order = λ i j hi hj l. l;
}

pub unneeded-well : (a b : Item) → WellFormed a → SameNeeded a b → WellFormed b
unneeded-well a b wa s =
    graph-well a b wa (unneeded-graph a b s) (λ i u d h.
    let n : NeededIn a i = unneeded-from a b s d in
    well_formed_below a wa i u n (subst (λ (z : List ℕ). Has z u) (unneeded-used a b s i n) h))

pub unneeded-same : (a b : Item) → WellFormed a → SameNeeded a b → renumbered b ≡ renumbered a
unneeded-same a b wa s = sym (renumbered-same a b wa (unneeded-well a b wa s) (unneeded-graph a b s))

-- the printed order is an order of the needed statements

printed-after : (a : Item) → WellFormed a → EachAfterItsUses a.statements (printed_order a)
printed-after a wa front back i u e h =
    let P = printed_order a in
    let once : Distinct (front ++ i ∷ back) = subst (λ (z : List ℕ). Distinct z) e (printed-once a.statements (walks_of a)) in
    let d : NeededIn a i = needs a i (subst (λ (z : List ℕ). Has z i) (sym e) (Has-right front (i ∷ back) i (Has-here i back))) in
    let l : place P u < place P i = use-place a.statements (walks_of a) i u (well_formed_below a wa) d h in
    let at : place P i ≡ length front = ap (λ z. place z i) e ∙ place-joined front i back (apart front i back once) in
    place-front front (i ∷ back) u (subst (λ (z : List ℕ). place z u < length front) e (subst (λ (z : ℕ). place P u < z) at l))

pub printed-exact : (a : Item) → WellFormed a → OrdersNeeded a (printed_order a)
printed-exact a wa = record {
  needed = λ i. (needs a i, inside a wa i);
  once = printed-once a.statements (walks_of a);
  after_uses = printed-after a wa;
  condition_order = place-increasing a wa;
}
