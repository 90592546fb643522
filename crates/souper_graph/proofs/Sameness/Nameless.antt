-- Items that differ in names alone: the same order, the same needed statements, and what uses resolve to.
use Rattle.std.proofs.Common.{◌≡◌, ℕ, zero, suc, ◌++◌, map, List, [], ◌∷◌, Bool, cond, Option, Some, None, refl, sym, ap, ◌∙◌, subst}
use Rattle.std.specs.List.{flat_map, filter, slice_get}
use Rattle.std.specs.Prelude.{nat_lt, option_map}
use Rattle.std.proofs.lemmas.Option.{slice_get-map}
use Rattle.souper_graph.specs.Values.{PlainStatement, assigned, condition, block_condition, Item}
use Rattle.souper_graph.specs.Uses.{Has, Use, value_use, block_use, position_of, uses_of, uses_of_optional, used_at, is_condition, conditions_from, conditions, walks_of, Needed, walked, used, NeededIn}
use Rattle.souper_graph.specs.Order.{unfold_to, firsts, order_of_walks, printed_order}
use Rattle.souper_graph.specs.WellFormed.{predecessors_of, predecessors_at, IsAssigned, IsBlock, IsMet}
use Rattle.souper_graph.specs.Sameness.{carried}
use Rattle.souper_graph.specs.Renaming.{with_name, nameless, SameUpToNames, with_statements}
use Rattle.souper_graph.proofs.Judging.Needed.{stood, statement_at, first_of, last_of}
use Rattle.souper_graph.proofs.Sameness.Carrying.{map-map}
use Rattle.souper_graph.proofs.Sameness.Renumbered.{Ordered, order-carried}

-- ---- a statement with another name

pub uses-named : (n : List ℕ) (s : PlainStatement) → uses_of (with_name n s) ≡ uses_of s
uses-named n (assigned a) = refl
uses-named n (condition p) = refl
uses-named n (block_condition p) = refl

pub named-twice : (m n : List ℕ) (s : PlainStatement) → with_name m (with_name n s) ≡ with_name m s
named-twice m n (assigned a) = refl
named-twice m n (condition p) = refl
named-twice m n (block_condition p) = refl

pub carried-named : (f : ℕ → ℕ) (n : List ℕ) (s : PlainStatement) → carried f (with_name n s) ≡ with_name n (carried f s)
carried-named f n (assigned a) = refl
carried-named f n (condition p) = refl
carried-named f n (block_condition p) = refl

condition-named : (n : List ℕ) (s : PlainStatement) → is_condition (with_name n s) ≡ is_condition s
condition-named n (assigned a) = refl
condition-named n (condition p) = refl
condition-named n (block_condition p) = refl

optional-uses : (o : Option PlainStatement) → uses_of_optional (option_map (with_name []) o) ≡ uses_of_optional o
optional-uses None = refl
optional-uses (Some s) = uses-named [] s

optional-predecessors : (o : Option PlainStatement) → predecessors_of (option_map (with_name []) o) ≡ predecessors_of o
optional-predecessors None = refl
optional-predecessors (Some (assigned a)) = refl
optional-predecessors (Some (condition p)) = refl
optional-predecessors (Some (block_condition p)) = refl

assigned-nameless : (o : Option PlainStatement) → IsAssigned (option_map (with_name []) o) ≡ IsAssigned o
assigned-nameless None = refl
assigned-nameless (Some (assigned a)) = refl
assigned-nameless (Some (condition p)) = refl
assigned-nameless (Some (block_condition p)) = refl

block-nameless : (o : Option PlainStatement) → IsBlock (option_map (with_name []) o) ≡ IsBlock o
block-nameless None = refl
block-nameless (Some (assigned a)) = refl
block-nameless (Some (condition p)) = refl
block-nameless (Some (block_condition p)) = refl

-- ---- statements without names

abbrev pub without_names : List PlainStatement → List PlainStatement
without_names ss = map (with_name []) ss

pub without-get : (ss : List PlainStatement) (i : ℕ) → slice_get (without_names ss) i ≡ option_map (with_name []) (slice_get ss i)
without-get ss i = slice_get-map (with_name []) ss i

used-without : (ss : List PlainStatement) (i : ℕ) → used_at (without_names ss) i ≡ used_at ss i
used-without ss i =
    ap (λ (o : Option PlainStatement). map position_of (uses_of_optional o)) (without-get ss i) ∙ ap (map position_of) (optional-uses (slice_get ss i))

conditions-without : (k : ℕ) (ss : List PlainStatement) → conditions_from k (without_names ss) ≡ conditions_from k ss
conditions-without k [] = refl
conditions-without k (s ∷ ss) =
    let rest = conditions_from (suc k) (without_names ss) in
    ap (λ (b : Bool). cond b (k ∷ rest) rest) (condition-named [] s)
    ∙ ap (λ (z : List ℕ). cond (is_condition s) (k ∷ z) z) (conditions-without (suc k) ss)

-- an unfolding depends on nothing but uses
unfold-without : (ss : List PlainStatement) (n p : ℕ) → unfold_to (without_names ss) n p ≡ unfold_to ss n p
unfold-without ss zero p = refl
unfold-without ss (suc n) p =
    ap (λ (us : List ℕ). flat_map (unfold_to (without_names ss) n) (filter (λ u. nat_lt u p) us) ++ p ∷ []) (used-without ss p)
    ∙ ap (λ (f : ℕ → List ℕ). flat_map f (filter (λ u. nat_lt u p) (used_at ss p)) ++ p ∷ []) (λ j q. unfold-without ss n q j)

walks-nameless : (a : Item) → walks_of (nameless a) ≡ walks_of a
walks-nameless a = ap (λ (c : List ℕ). (first_of a ++ c) ++ last_of a) (conditions-without 0 a.statements)

order-nameless : (a : Item) → printed_order (nameless a) ≡ printed_order a
order-nameless a =
    ap (λ (w : List ℕ). order_of_walks (without_names a.statements) w) (walks-nameless a)
    ∙ ap (λ (f : ℕ → List ℕ). firsts (flat_map f (walks_of a))) (λ j p. unfold-without a.statements (suc p) p j)

needed-without : (ss ts : List PlainStatement) (v w : List ℕ) {i : ℕ} → ((p : ℕ) → used_at ts p ≡ used_at ss p) → w ≡ v → Needed ss v i → Needed ts w i
needed-without ss ts v w {i = i} e d (walked h) = walked (subst (λ (z : List ℕ). Has z i) (sym d) h)
needed-without ss ts v w {i = i} e d (used {i = p} n h) = used (needed-without ss ts v w e d n) (subst (λ (z : List ℕ). Has z i) (sym (e p)) h)

-- ---- items that differ in names alone

abbrev pub Alike : Item → Item → Type 0
Alike a b = nameless b ≡ nameless a

without-twice : (ss : List PlainStatement) → without_names (without_names ss) ≡ without_names ss
without-twice ss = map-map (with_name []) (with_name []) ss ∙ ap (λ (f : PlainStatement → PlainStatement). map f ss) (λ j s. named-twice [] [] s j)

pub nameless-alike : (a : Item) → Alike a (nameless a)
nameless-alike a = ap (λ (ss : List PlainStatement). with_statements a ss) (without-twice a.statements)

alike-used : (a b : Item) → Alike a b → (i : ℕ) → used_at b.statements i ≡ used_at a.statements i
alike-used a b e i = sym (used-without b.statements i) ∙ ap (λ (x : Item). used_at x.statements i) e ∙ used-without a.statements i

pub alike-conditions : (a b : Item) → Alike a b → conditions b ≡ conditions a
alike-conditions a b e = sym (conditions-without 0 b.statements) ∙ ap conditions e ∙ conditions-without 0 a.statements

pub alike-order : (a b : Item) → Alike a b → printed_order b ≡ printed_order a
alike-order a b e = sym (order-nameless b) ∙ ap printed_order e ∙ order-nameless a

pub alike-needed : (a b : Item) → Alike a b → {i : ℕ} → NeededIn a i → NeededIn b i
alike-needed a b e d =
    needed-without a.statements b.statements (walks_of a) (walks_of b) (alike-used a b e) (sym (walks-nameless b) ∙ ap walks_of e ∙ walks-nameless a) d

alike-get : (a b : Item) → Alike a b → (i : ℕ) → option_map (with_name []) (slice_get b.statements i) ≡ option_map (with_name []) (slice_get a.statements i)
alike-get a b e i = sym (without-get b.statements i) ∙ ap (λ (x : Item). slice_get x.statements i) e ∙ without-get a.statements i

pub alike-predecessors : (a b : Item) → Alike a b → (i : ℕ) → predecessors_at b.statements i ≡ predecessors_at a.statements i
alike-predecessors a b e i =
    sym (optional-predecessors (slice_get b.statements i)) ∙ ap predecessors_of (alike-get a b e i) ∙ optional-predecessors (slice_get a.statements i)

met-without : (ss : List PlainStatement) (u : Use) → IsMet (without_names ss) u ≡ IsMet ss u
met-without ss (value_use i) = ap IsAssigned (without-get ss i) ∙ assigned-nameless (slice_get ss i)
met-without ss (block_use i) = ap IsBlock (without-get ss i) ∙ block-nameless (slice_get ss i)

pub alike-met : (a b : Item) → Alike a b → (u : Use) → IsMet a.statements u → IsMet b.statements u
alike-met a b e u h =
    subst (λ (X : Type 0). X) (sym (met-without a.statements u) ∙ ap (λ (x : Item). IsMet x.statements u) (sym e) ∙ met-without b.statements u) h

pub there-named : (o : Option PlainStatement) (t : PlainStatement) → option_map (with_name []) o ≡ Some t → o ≡ Some (stood o)
there-named None t e = absurd (cc)
there-named (Some s) t e = refl

pub alike-ordered : (a b : Item) → Alike a b → Ordered a → Ordered b
alike-ordered a b e o = record {
  below = λ i u d h. o.below i u (needed d) (subst (λ (z : List ℕ). Has z u) (alike-used a b e i) h);
  there = λ i d. there-named (slice_get b.statements i) (with_name [] (statement_at a.statements i)) (alike-get a b e i ∙ ap (option_map (with_name [])) (o.there i (needed d)));
}
  where
    needed : {i : ℕ} → NeededIn b i → NeededIn a i
    needed d = alike-needed b a (sym e) d

-- ---- an item without its names

pub nameless-at : (a : Item) (i : ℕ) (s : PlainStatement) → slice_get a.statements i ≡ Some s → slice_get (nameless a).statements i ≡ Some (with_name [] s)
nameless-at a i s e = without-get a.statements i ∙ ap (option_map (with_name [])) e

pub nameless-ordered : (a : Item) → Ordered a → Ordered (nameless a)
nameless-ordered a o = alike-ordered a (nameless a) (nameless-alike a) o

pub named-order : (a b : Item) → Ordered a → Ordered b → (s : SameUpToNames a b) → printed_order b ≡ map s.to (printed_order a)
named-order a b oa ob s =
    sym (alike-order b (nameless b) (nameless-alike b)) ∙ order-carried (nameless a) (nameless b) (nameless-ordered a oa) (nameless-ordered b ob) s
    ∙ ap (map s.to) (alike-order a (nameless a) (nameless-alike a))
