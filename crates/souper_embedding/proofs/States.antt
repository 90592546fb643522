-- One path condition more: what the new map says, and that a function that embeds is followed.
use Rattle.std.proofs.Common.{◌≡◌, ℕ, zero, suc, ◌<◌, ◌++◌, ◌⊎◌, inl, inr, length, take, get_or, List, [], ◌∷◌, Option, Some, refl, sym, ap, ◌∙◌, subst, arith}
use Rattle.std.specs.Prelude.{slice_get}
use Rattle.std.proofs.lemmas.Option.{same_Some, slice_get_within, slice_get-get_or}
use Rattle.souper_graph.specs.Values.{PlainStatement, PlainInfer}
use Rattle.souper_graph.specs.Uses.{conditions_from, used_at, walked, used, NeededIn}
use Rattle.souper_graph.specs.WellFormed.{WellFormed}
use Rattle.souper_graph.specs.Sameness.{carried}
use Rattle.souper_graph.proofs.Lists.{Has-left}
use Rattle.souper_graph.proofs.Judging.Needed.{well_formed_inside}
use Rattle.souper_embedding.specs.declared.search.Embedding.{Embedding}
use Rattle.souper_embedding.specs.Embedding.{EmbedsLeft}
use Rattle.souper_embedding.specs.Images.{GoThere, IsFirstOfEqual, AreFirstOfEqual}
use Rattle.souper_embedding.specs.Maps.{Follows, Binds, AreBelow, UseBelow, KnownAreNeeded, EachStands, IsWalked}
use Rattle.souper_embedding.specs.Search.{conditions_in, walks_with, left_item, IsReached, IsAtCondition, IsMet, IsTaken}
use Rattle.souper_embedding.specs.States.{IsState, IsNext, IsTarget}
use Rattle.souper_embedding.proofs.ConditionLists.{condition-in}
use Rattle.souper_embedding.proofs.Searching.{use-below, each-stands-for, next-needed, reached-next, has-at}

none-of : {X : Type 0} (xs : List X) → take 0 xs ≡ []
none-of [] = refl
none-of (x ∷ xs) = refl

pub take-next : {X : Type 0} (xs : List X) (k : ℕ) (x : X) → slice_get xs k ≡ Some x → take (suc k) xs ≡ take k xs ++ x ∷ []
take-next [] k x e = absurd (cc)
take-next (y ∷ ys) zero x e = ap (λ z. z ∷ take 0 ys) (same_Some y x e) ∙ ap (λ z. x ∷ z) (none-of ys)
take-next (y ∷ ys) (suc k) x e = ap (λ z. y ∷ z) (take-next ys k x e)

-- the walks of one more condition
abbrev pub more_walks : List PlainStatement → PlainInfer → ℕ → ℕ → List ℕ
more_walks ss i k p = walks_with ss i (take k (conditions_in ss) ++ p ∷ [])

pub more-below : (ss : List PlainStatement) (i : PlainInfer) (k p : ℕ) → WellFormed (left_item ss i) → slice_get (conditions_in ss) k ≡ Some p → UseBelow ss (more_walks ss i k p)
more-below ss i k p wl e = subst (λ z. UseBelow ss (walks_with ss i z)) (take-next (conditions_in ss) k p e) (use-below ss i (suc k) wl)

pub more-stands : (ss qs : List PlainStatement) (i j : PlainInfer) (k p : ℕ) (f : ℕ → ℕ) → WellFormed (left_item ss i) → slice_get (conditions_in ss) k ≡ Some p → EmbedsLeft (left_item ss i) (left_item qs j) i j f
    → EachStands ss qs (more_walks ss i k p) f
more-stands ss qs i j k p f wl e h = subst (λ z. EachStands ss qs (walks_with ss i z) f) (take-next (conditions_in ss) k p e) (each-stands-for (left_item ss i) (left_item qs j) i j f (suc k) wl h)

-- what is known once the condition is bound
pub more-needed : (ss qs : List PlainStatement) (i j : PlainInfer) (to bound : List (Option ℕ)) (k p : ℕ) → IsAtCondition ss qs i j to k p → Binds to bound (used_at ss p) → KnownAreNeeded ss (more_walks ss i k p) bound
more-needed ss qs i j to bound k p h b = next-needed ss i (take k (conditions_in ss)) p to bound h.reached.needed b

pub met-next : (ss qs : List PlainStatement) (i j : PlainInfer) (to bound next : List (Option ℕ)) (k p q : ℕ) → IsAtCondition ss qs i j to k p
    → Binds to bound (used_at ss p) → ((f : ℕ → ℕ) (s : PlainStatement) → Follows bound f → slice_get ss p ≡ Some s → slice_get qs q ≡ Some (carried f s))
    → ((walks : List ℕ) → UseBelow ss walks → KnownAreNeeded ss walks bound → IsWalked ss qs walks bound next) → IsMet ss qs i j to next k p q
met-next ss qs i j to bound next k p q h b sound walk = record {
  reached = reached-next ss qs i j to bound next k p q h.reached (take-next (conditions_in ss) k p h.at) b sound w;
  kept = λ f follows n m g. follows n m (w.kept n m (b.kept n m g));
  image = λ f s follows e. sound f s (λ n m g. follows n m (w.kept n m g)) e;
}
  where
    w : IsWalked ss qs (more_walks ss i k p) bound next
    w = walk (more_walks ss i k p) (more-below ss i k p h.formed h.at) (more-needed ss qs i j to bound k p h b)

-- what a condition uses is inside
pub uses-inside : (ss qs : List PlainStatement) (i j : PlainInfer) (to : List (Option ℕ)) (k p : ℕ) → IsAtCondition ss qs i j to k p → AreBelow (length to) (used_at ss p)
uses-inside ss qs i j to k p h u m =
    let n : NeededIn (left_item ss i) p = walked (Has-left (i.value ∷ conditions_in ss) [] p (inr (has-at (conditions_in ss) k p h.at))) in
    let l = well_formed_inside (left_item ss i) h.formed u (used n m) in
    let z = h.reached.long in omega arith

-- ---- images

-- one more number in a list
get-more : (xs : List ℕ) (q n d : ℕ) → slice_get (xs ++ q ∷ []) n ≡ Some d → (slice_get xs n ≡ Some d) ⊎ ((n ≡ length xs) × (q ≡ d))
get-more [] q zero d e = inr (refl, same_Some q d e)
get-more [] q (suc n) d e = absurd (cc)
get-more (x ∷ xs) q zero d e = inl e
get-more (x ∷ xs) q (suc n) d e = elim (get-more xs q n d e) [ inl a ↦ inl a | inr b ↦ inr (ap (λ z. suc z) b.0, b.1) ]

pub get-middle : (xs : List ℕ) (q : ℕ) (rest : List ℕ) → slice_get (xs ++ q ∷ rest) (length xs) ≡ Some q
get-middle [] q rest = refl
get-middle (x ∷ xs) q rest = get-middle xs q rest

pub long-more : (xs : List ℕ) (q : ℕ) → length (xs ++ q ∷ []) ≡ suc (length xs)
long-more [] q = refl
long-more (x ∷ xs) q = ap (λ z. suc z) (long-more xs q)

there-more : (ss qs : List PlainStatement) (f : ℕ → ℕ) (images : List ℕ) (p q : ℕ) → slice_get (conditions_from 0 ss) (length images) ≡ Some p → GoThere ss qs f images
    → ((s : PlainStatement) → slice_get ss p ≡ Some s → slice_get qs q ≡ Some (carried f s)) → GoThere ss qs f (images ++ q ∷ [])
there-more ss qs f images p q at h image n c d s ec ed es = elim (get-more images q n d ed) [
  | inl a ↦ h n c d s ec a es
  | inr b ↦ (
      let here : slice_get (conditions_from 0 ss) (length images) ≡ Some c = subst (λ z. slice_get (conditions_from 0 ss) z ≡ Some c) b.0 ec in
      let same : c ≡ p = same_Some c p (sym here ∙ at) in
      subst (λ z. slice_get qs z ≡ Some (carried f s)) b.1 (image s (subst (λ z. slice_get ss z ≡ Some s) same es)))
]

first-more : (qs : List PlainStatement) (images : List ℕ) (q : ℕ) → AreFirstOfEqual qs images → IsFirstOfEqual qs q → AreFirstOfEqual qs (images ++ q ∷ [])
first-more qs images q h first n d e = elim (get-more images q n d e) [ inl a ↦ h n d a | inr b ↦ subst (λ z. IsFirstOfEqual qs z) b.1 first ]

-- the search has come to the next path condition
at-condition : (ss qs : List PlainStatement) (i j : PlainInfer) (x : Embedding) (conditions : List ℕ) → WellFormed (left_item ss i) → conditions ≡ conditions_in ss → length x.images.items < length conditions → IsState ss qs i j x
    → IsAtCondition ss qs i j x.map.items (length x.images.items) (get_or conditions (length x.images.items) 0)
at-condition ss qs i j x conditions wl e l h = record {
  formed = wl;
  at = subst (λ z. slice_get z (length x.images.items) ≡ Some (get_or conditions (length x.images.items) 0)) e (slice_get-get_or conditions (length x.images.items) 0 l);
  reached = h.reached;
}

-- the same of the values that a call has
pub at-next : (ss qs : List PlainStatement) (i j : PlainInfer) (x : Embedding) (conditions : List ℕ) (to : List (Option ℕ)) (n : ℕ) → to ≡ x.map.items → n ≡ length x.images.items
    → WellFormed (left_item ss i) → conditions ≡ conditions_in ss → length x.images.items < length conditions → IsState ss qs i j x → IsAtCondition ss qs i j to (length x.images.items) (get_or conditions n 0)
at-next ss qs i j x conditions to n eto en wl e l h =
    subst (λ z. IsAtCondition ss qs i j z (length x.images.items) (get_or conditions n 0)) (sym eto)
    (subst (λ z. IsAtCondition ss qs i j x.map.items (length x.images.items) (get_or conditions z 0)) (sym en) (at-condition ss qs i j x conditions wl e l h))

pub next-state : (ss qs : List PlainStatement) (i j : PlainInfer) (x y : Embedding) (to : List (Option ℕ)) (p q : ℕ) → to ≡ x.map.items → IsAtCondition ss qs i j to (length x.images.items) p → IsState ss qs i j x
    → IsMet ss qs i j to y.map.items (length x.images.items) p q → y.images.items ≡ x.images.items ++ q ∷ [] → IsFirstOfEqual qs q → IsNext ss qs i j x q y
next-state ss qs i j x y to p q eto at h m e first = record {
  state = record {
    reached = subst (λ n. IsReached ss qs i j y.map.items n) (sym longer) m.reached;
    within = (let l = slice_get_within (conditions_in ss) (length x.images.items) p at.at in let k = longer in omega arith);
    images = λ f follows. subst (λ z. GoThere ss qs f z) (sym e) (there-more ss qs f x.images.items p q at.at (h.images f (kept f follows)) (λ s a. m.image f s follows a));
    first = subst (λ z. AreFirstOfEqual qs z) (sym e) (first-more qs x.images.items q h.first first);
  };
  kept = kept;
  images = e;
}
  where
    longer : length y.images.items ≡ suc (length x.images.items)
    longer = ap length e ∙ long-more x.images.items q

    kept : (f : ℕ → ℕ) → Follows y.map.items f → Follows x.map.items f
    kept f follows = subst (λ (z : List (Option ℕ)). Follows z f) eto (m.kept f follows)

-- a function whose images begin with those of the state, and then q, takes the condition to q
pub target-taken : (ss qs : List PlainStatement) (i j : PlainInfer) (x : Embedding) (to : List (Option ℕ)) (p q : ℕ) (f : ℕ → ℕ) (images rest : List ℕ) → to ≡ x.map.items → IsAtCondition ss qs i j to (length x.images.items) p
    → IsTarget ss qs i j x.map.items f images → images ≡ x.images.items ++ q ∷ rest → IsTaken ss qs i j to p q f
target-taken ss qs i j x to p q f images rest eto at t e =
    let c = condition-in ss p (has-at (conditions_in ss) (length x.images.items) p at.at) in
    record {
      embeds = t.embeds;
      follows = subst (λ (z : List (Option ℕ)). Follows z f) (sym eto) t.follows;
      statement = c.statement;
      there = c.there;
      is = c.is;
      image = t.there (length x.images.items) p q c.statement at.at (ap (λ z. slice_get z (length x.images.items)) e ∙ get-middle x.images.items q rest) c.there;
    }
