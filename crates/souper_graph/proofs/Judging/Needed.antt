-- What well-formedness says of each needed position: it is in range, its uses are lower, and each use resolves.
use Rattle.std.proofs.Common.{◌≡◌, ℕ, zero, suc, ◌+◌, ◌<◌, ◌⊎◌, inl, inr, length, map, List, [], ◌∷◌, Bool, true, false, cond, Option, Some, None, refl, sym, ap, ◌∙◌, subst, arith}
use Rattle.std.specs.List.{slice_get}
use Rattle.std.proofs.lemmas.Option.{slice_get_within}
use Rattle.souper_graph.specs.Values.{var, PlainStatement, assigned, condition, block_condition, Item}
use Rattle.souper_graph.specs.Uses.{Has, Use, value_use, block_use, position_of, uses_of, uses_of_optional, uses_at, used_at, is_condition, conditions_from, conditions, first_roots, last_roots, roots_of, first_walks, walks_of, walked, used, NeededIn, UsesBelow}
use Rattle.souper_graph.specs.Faults.{HasBadId}
use Rattle.souper_graph.specs.WellFormed.{WellFormed, IsAssigned, IsBlock, IsMet}
use Rattle.souper_graph.proofs.Lists.{Has-left, Has-right, Has-cases, Has-none, Has-head, Has-map, Has-mapped}

-- the statement at the position, if there is one, else an input variable without a name
abbrev pub stood : Option PlainStatement → PlainStatement
stood None = assigned (record { name = []; ty = None; value = var; attributes = [] })
stood (Some s) = s

abbrev pub statement_at : List PlainStatement → ℕ → PlainStatement
statement_at ss i = stood (slice_get ss i)

-- what a list has at an index, or nothing
slice_get_tells : {A : Type 0} (xs : List A) (i : ℕ) → ((x : A) × (slice_get xs i ≡ Some x)) ⊎ (slice_get xs i ≡ None)
slice_get_tells {A = A} xs i = under (slice_get xs i) refl
  where
    under : (o : Option A) → slice_get xs i ≡ o → ((x : A) × (slice_get xs i ≡ Some x)) ⊎ (slice_get xs i ≡ None)
    under None e = inr e
    under (Some x) e = inl (x, e)

pub stands : (ss : List PlainStatement) (i : ℕ) → i < length ss → slice_get ss i ≡ Some (statement_at ss i)
stands ss i l = elim (slice_get_tells ss i) [
  | inl t ↦ t.1 ∙ ap (λ z. Some z) (sym (ap stood t.1))
  | inr n ↦ absurd (past ss i l n)
]
  where
    past : (ss : List PlainStatement) (i : ℕ) → i < length ss → slice_get ss i ≡ None → ⊥
    past [] i l n = absurd (omega arith)
    past (s ∷ ss) zero l n = cc
    past (s ∷ ss) (suc i) l n = past ss i (omega arith) n

pub uses-stood : (o : Option PlainStatement) → uses_of_optional o ≡ uses_of (stood o)
uses-stood None = refl
uses-stood (Some s) = refl

-- a position that resolves is in range, and no path condition

some-assigned : (o : Option PlainStatement) → IsAssigned o → (s : PlainStatement) × (o ≡ Some s) × (is_condition s ≡ false)
some-assigned None h = absurd h
some-assigned (Some (assigned a)) h = (assigned a, refl, refl)
some-assigned (Some (condition p)) h = absurd h
some-assigned (Some (block_condition p)) h = absurd h

some-block : (o : Option PlainStatement) → IsBlock o → (s : PlainStatement) × (o ≡ Some s) × (is_condition s ≡ false)
some-block None h = absurd h
some-block (Some (assigned a)) h = (assigned a, refl, refl)
some-block (Some (condition p)) h = absurd h
some-block (Some (block_condition p)) h = absurd h

pub met-stands : (ss : List PlainStatement) (u : Use) → IsMet ss u → (s : PlainStatement) × (slice_get ss (position_of u) ≡ Some s) × (is_condition s ≡ false)
met-stands ss (value_use i) h = some-assigned (slice_get ss i) h
met-stands ss (block_use i) h = some-block (slice_get ss i) h

pub met-inside : (ss : List PlainStatement) (u : Use) → IsMet ss u → position_of u < length ss
met-inside ss u h = let r = met-stands ss u h in slice_get_within ss (position_of u) r.0 r.1

met-plain : (ss : List PlainStatement) (u : Use) → IsMet ss u → is_condition (statement_at ss (position_of u)) ≡ false
met-plain ss u h = let r = met-stands ss u h in ap (λ o. is_condition (stood o)) r.1 ∙ r.2

-- the walks of an item

abbrev pub first_of : Item → List ℕ
first_of a = map position_of (first_roots a.ending)

abbrev pub last_of : Item → List ℕ
last_of a = map position_of (last_roots a.ending)

pub in-first : (a : Item) (i : ℕ) → Has (first_of a) i → Has (walks_of a) i
in-first a i h = Has-left (first_walks a) (last_of a) i (Has-left (first_of a) (conditions a) i h)

pub in-conditions : (a : Item) (i : ℕ) → Has (conditions a) i → Has (walks_of a) i
in-conditions a i h = Has-left (first_walks a) (last_of a) i (Has-right (first_of a) (conditions a) i h)

in-last : (a : Item) (i : ℕ) → Has (last_of a) i → Has (walks_of a) i
in-last a i h = Has-right (first_walks a) (last_of a) i h

pub root-walked : (a : Item) (u : Use) → Has (roots_of a.ending) u → NeededIn a (position_of u)
root-walked a u h = elim (Has-cases (first_roots a.ending) (last_roots a.ending) u h) [
  | inl q ↦ walked (in-first a (position_of u) (Has-map position_of (first_roots a.ending) u q))
  | inr q ↦ walked (in-last a (position_of u) (Has-map position_of (last_roots a.ending) u q))
]

pub use-needed : (a : Item) (p : ℕ) (u : Use) → NeededIn a p → Has (uses_at a.statements p) u → NeededIn a (position_of u)
use-needed a p u d h = used d (Has-map position_of (uses_at a.statements p) u h)

pub from-inside : (k : ℕ) (ss : List PlainStatement) (j : ℕ) → Has (conditions_from k ss) j → j < k + length ss
from-inside k [] j h = absurd (Has-none j h)
from-inside k (s ∷ ss) j h = under (is_condition s) (λ a. from-inside (suc k) ss j a) h
  where
    under : (b : Bool) → (Has (conditions_from (suc k) ss) j → j < suc k + length ss) →
        Has (cond b (k ∷ conditions_from (suc k) ss) (conditions_from (suc k) ss)) j → j < k + length (s ∷ ss)
    under true f h = elim (Has-head k j (conditions_from (suc k) ss) h) [ inl e ↦ omega arith | inr a ↦ (let q = f a in omega arith) ]
    under false f h = let q = f h in omega arith

-- what a needed statement uses resolves
uses-met : (a : Item) → WellFormed a → (p : ℕ) (u : Use) → NeededIn a p → Has (uses_at a.statements p) u → (position_of u < p) × IsMet a.statements u
uses-met a wf p u d h = under (slice_get a.statements p) refl h
  where
    under : (o : Option PlainStatement) → slice_get a.statements p ≡ o → Has (uses_of_optional o) u → (position_of u < p) × IsMet a.statements u
    under None e q = absurd (Has-none u q)
    under (Some s) e q = let c = wf.closed p s d e in (c.below u q, c.met u q)

pub well_formed_below : (a : Item) → WellFormed a → UsesBelow a
well_formed_below a wf i v d h =
    let r = Has-mapped position_of (uses_at a.statements i) v h in
    subst (λ (z : ℕ). z < i) r.2 (uses-met a wf i r.0 d r.1).0

pub well_formed_inside : (a : Item) → WellFormed a → (i : ℕ) → NeededIn a i → i < length a.statements
well_formed_inside a wf i (walked h) = elim (Has-cases (first_walks a) (last_of a) i h) [
  | inl p ↦ elim (Has-cases (first_of a) (conditions a) i p) [
    | inl q ↦ (let r = Has-mapped position_of (first_roots a.ending) i q in
        subst (λ (z : ℕ). z < length a.statements) r.2 (met-inside a.statements r.0 (wf.roots_met r.0 (Has-left (first_roots a.ending) (last_roots a.ending) r.0 r.1))))
    | inr q ↦ (let l = from-inside 0 a.statements i q in omega arith)
  ]
  | inr p ↦ (let r = Has-mapped position_of (last_roots a.ending) i p in
      subst (λ (z : ℕ). z < length a.statements) r.2 (met-inside a.statements r.0 (wf.roots_met r.0 (Has-right (first_roots a.ending) (last_roots a.ending) r.0 r.1))))
]
well_formed_inside a wf i (used {i = p} d h) =
    let r = Has-mapped position_of (uses_at a.statements p) i h in
    subst (λ (z : ℕ). z < length a.statements) r.2 (met-inside a.statements r.0 (uses-met a wf p r.0 d r.1).1)

pub well_formed_stands : (a : Item) → WellFormed a → (i : ℕ) → NeededIn a i → slice_get a.statements i ≡ Some (statement_at a.statements i)
well_formed_stands a wf i d = stands a.statements i (well_formed_inside a wf i d)

pub well_formed_no_bad_id : (a : Item) → WellFormed a → ¬ HasBadId a
well_formed_no_bad_id a wf h = elim h.1 [
  | inl q ↦ h.2 (wf.roots_met h.0 q)
  | inr q ↦ h.2 (uses-met a wf q.0 h.0 q.1 q.2).1
]

-- no root and no use of a needed statement is a path condition

pub plain_first : (a : Item) → WellFormed a → (i : ℕ) → Has (first_of a) i → is_condition (statement_at a.statements i) ≡ false
plain_first a wf i h =
    let r = Has-mapped position_of (first_roots a.ending) i h in
    ap (λ z. is_condition (statement_at a.statements z)) (sym r.2)
    ∙ met-plain a.statements r.0 (wf.roots_met r.0 (Has-left (first_roots a.ending) (last_roots a.ending) r.0 r.1))

pub plain_last : (a : Item) → WellFormed a → (i : ℕ) → Has (last_of a) i → is_condition (statement_at a.statements i) ≡ false
plain_last a wf i h =
    let r = Has-mapped position_of (last_roots a.ending) i h in
    ap (λ z. is_condition (statement_at a.statements z)) (sym r.2)
    ∙ met-plain a.statements r.0 (wf.roots_met r.0 (Has-right (first_roots a.ending) (last_roots a.ending) r.0 r.1))

pub plain_uses : (a : Item) → WellFormed a → (i j : ℕ) → NeededIn a i → Has (used_at a.statements i) j → is_condition (statement_at a.statements j) ≡ false
plain_uses a wf i j d h =
    let r = Has-mapped position_of (uses_at a.statements i) j h in
    ap (λ z. is_condition (statement_at a.statements z)) (sym r.2) ∙ met-plain a.statements r.0 (uses-met a wf i r.0 d r.1).1
