-- What a map that was reached says of the left-hand side, and which maps are reached.
use Rattle.std.proofs.Common.{◌≡◌, ℕ, zero, suc, ◌++◌, ◌⊎◌, inl, inr, length, map, take, List, [], ◌∷◌, Option, Some, None, true, false, refl, sym, ap, ◌∙◌, subst}
use Rattle.std.specs.Prelude.{slice_get, IsTrue, flat_map}
use Rattle.std.proofs.lemmas.Option.{same_Some}
use Rattle.souper_graph.specs.Values.{PlainAssignment, PlainStatement, assigned, condition, block_condition, PlainInfer, inferred, Item}
use Rattle.souper_graph.specs.Uses.{Has, Use, value_use, block_use, position_of, uses_of, uses_of_optional, used_at, is_condition, Needed, walked, used, NeededIn}
use Rattle.souper_graph.specs.WellFormed.{WellFormed, IsAssigned, IsBlock, IsMet, AreMet}
use Rattle.souper_graph.specs.Sameness.{carried}
use Rattle.souper_graph.specs.LeftSides.{with_infer}
use Rattle.souper_graph.proofs.Lists.{Has-left, Has-right, Has-cases, Has-mapped}
use Rattle.souper_graph.proofs.Order.Needed.{needed_more}
use Rattle.souper_graph.proofs.Judging.Needed.{well_formed_below}
use Rattle.souper_graph.proofs.Sameness.Carrying.{condition-carried}
use Rattle.souper_embedding.specs.Embedding.{StandsFor, WantsWithin, EmbedsLeft}
use Rattle.souper_embedding.specs.Maps.{GoesTo, Follows, Binds, UseBelow, KnownAreNeeded, EachStands, IsClosedAt, IsWalked, IsOneToOne}
use Rattle.souper_embedding.specs.Search.{conditions_in, walks_with, IsReached}
use Rattle.souper_embedding.proofs.ConditionLists.{condition-in, has-condition}

-- ---- what the left-hand side needs

-- all walks of the left-hand side
abbrev pub all_walks : List PlainStatement → PlainInfer → List ℕ
all_walks ss i = walks_with ss i (conditions_in ss)

flat-has : (g : ℕ → List ℕ) (xs : List ℕ) (x y : ℕ) → Has xs x → Has (g x) y → Has (flat_map g xs) y
flat-has g [] x y h k = absurd h
flat-has g (z ∷ xs) x y (inl e) k = Has-left (g z) (flat_map g xs) y (subst (λ w. Has (g w) y) (sym e) k)
flat-has g (z ∷ xs) x y (inr h) k = Has-right (g z) (flat_map g xs) y (flat-has g xs x y h k)

flat-from : (g : ℕ → List ℕ) (xs : List ℕ) (y : ℕ) → Has (flat_map g xs) y → (x : ℕ) × Has xs x × Has (g x) y
flat-from g [] y h = absurd h
flat-from g (z ∷ xs) y h = elim (Has-cases (g z) (flat_map g xs) y h) [ inl a ↦ (z, inl refl, a) | inr b ↦ (let r = flat-from g xs y b in (r.0, inr r.1, r.2)) ]

-- it is a path condition, or needed from the root and from what the conditions use
pub left-cases : (ss : List PlainStatement) (i : PlainInfer) (p : ℕ) → NeededIn (record { statements = ss; ending = inferred i }) p → Has (conditions_in ss) p ⊎ Needed ss (all_walks ss i) p
left-cases ss i p (walked h) = elim (Has-cases (i.value ∷ conditions_in ss) [] p h) [
  | inl a ↦ elim a [ inl e ↦ inr (walked (inl e)) | inr c ↦ inl c ]
  | inr b ↦ absurd b
]
left-cases ss i p (used {i = n} d h) = elim (left-cases ss i n d) [
  | inl c ↦ inr (walked (inr (flat-has (used_at ss) (conditions_in ss) n p c h)))
  | inr d ↦ inr (used d h)
]

-- what these walks need, the left-hand side needs
pub needed-left : (ss : List PlainStatement) (i : PlainInfer) (p : ℕ) → Needed ss (all_walks ss i) p → NeededIn (record { statements = ss; ending = inferred i }) p
needed-left ss i p (walked (inl e)) = walked (inl e)
needed-left ss i p (walked (inr h)) =
    let r = flat-from (used_at ss) (conditions_in ss) p h in
    used (walked (Has-left (i.value ∷ conditions_in ss) [] r.0 (inr r.1))) r.2
needed-left ss i p (used {i = n} d h) = used (needed-left ss i n d) h

-- it is an assignment
pub record IsAssignedAt (ss : List PlainStatement) (p : ℕ) : Type 0 where
  pub assignment : PlainAssignment
  pub there : slice_get ss p ≡ Some (assigned assignment)

assigned-some : (o : Option PlainStatement) → IsAssigned o → (a : PlainAssignment) × (o ≡ Some (assigned a))
assigned-some None h = absurd h
assigned-some (Some (assigned a)) h = (a, refl)
assigned-some (Some (condition p)) h = absurd h
assigned-some (Some (block_condition p)) h = absurd h

block-some : (o : Option PlainStatement) → IsBlock o → (a : PlainAssignment) × (o ≡ Some (assigned a))
block-some None h = absurd h
block-some (Some (assigned a)) h = (a, refl)
block-some (Some (condition p)) h = absurd h
block-some (Some (block_condition p)) h = absurd h

met-assigned : (ss : List PlainStatement) (u : Use) → IsMet ss u → IsAssignedAt ss (position_of u)
met-assigned ss (value_use n) h = let r = assigned-some (slice_get ss n) h in record { assignment = r.0; there = r.1 }
met-assigned ss (block_use n) h = let r = block-some (slice_get ss n) h in record { assignment = r.0; there = r.1 }

used-by : (ss : List PlainStatement) (n p : ℕ) (o : Option PlainStatement) → slice_get ss n ≡ o → ((s : PlainStatement) → slice_get ss n ≡ Some s → AreMet ss (uses_of s)) → Has (map position_of (uses_of_optional o)) p → IsAssignedAt ss p
used-by ss n p None e met h = absurd h
used-by ss n p (Some s) e met h =
    let r = Has-mapped position_of (uses_of s) p h in
    subst (λ z. IsAssignedAt ss z) r.2 (met-assigned ss r.0 (met s e r.0 r.1))

used-assigned : (ss : List PlainStatement) (i : PlainInfer) → WellFormed (record { statements = ss; ending = inferred i }) → (n p : ℕ) → NeededIn (record { statements = ss; ending = inferred i }) n → Has (used_at ss n) p → IsAssignedAt ss p
used-assigned ss i wl n p d h = used-by ss n p (slice_get ss n) refl (λ s e. (wl.closed n s d e).met) h

pub assigned-needed : (ss : List PlainStatement) (i : PlainInfer) → WellFormed (record { statements = ss; ending = inferred i }) → (p : ℕ) → Needed ss (all_walks ss i) p → IsAssignedAt ss p
assigned-needed ss i wl p (walked (inl e)) = subst (λ z. IsAssignedAt ss z) e (met-assigned ss (value_use i.value) (wl.roots_met (value_use i.value) (inl refl)))
assigned-needed ss i wl p (walked (inr h)) =
    let r = flat-from (used_at ss) (conditions_in ss) p h in
    used-assigned ss i wl r.0 p (walked (Has-left (i.value ∷ conditions_in ss) [] r.0 (inr r.1))) r.2
assigned-needed ss i wl p (used {i = n} d h) = used-assigned ss i wl n p (needed-left ss i n d) h

-- ---- walks of fewer conditions

taken-in : (xs : List ℕ) (k x : ℕ) → Has (take k xs) x → Has xs x
taken-in [] zero x h = h
taken-in [] (suc k) x h = h
taken-in (y ∷ ys) zero x h = absurd h
taken-in (y ∷ ys) (suc k) x (inl e) = inl e
taken-in (y ∷ ys) (suc k) x (inr h) = inr (taken-in ys k x h)

walks-in : (ss : List PlainStatement) (i : PlainInfer) (k p : ℕ) → Has (walks_with ss i (take k (conditions_in ss))) p → Has (all_walks ss i) p
walks-in ss i k p (inl e) = inl e
walks-in ss i k p (inr h) = let r = flat-from (used_at ss) (take k (conditions_in ss)) p h in inr (flat-has (used_at ss) (conditions_in ss) r.0 p (taken-in (conditions_in ss) k r.0 r.1) r.2)

pub use-below : (ss : List PlainStatement) (i : PlainInfer) (k : ℕ) → WellFormed (record { statements = ss; ending = inferred i }) → UseBelow ss (walks_with ss i (take k (conditions_in ss)))
use-below ss i k wl p u n h = well_formed_below (record { statements = ss; ending = inferred i }) wl p u (needed-left ss i p (needed_more (walks-in ss i k) n)) h

-- what the walks need is known
pub known-needed : (ss qs : List PlainStatement) (walks : List ℕ) (m : List (Option ℕ)) → ((p q : ℕ) → GoesTo m p q → IsClosedAt ss qs m p q) → ((p : ℕ) → Has walks p → (q : ℕ) × GoesTo m p q) → (p : ℕ) → Needed ss walks p → (q : ℕ) × GoesTo m p q
known-needed ss qs walks m closed known p (walked h) = known p h
known-needed ss qs walks m closed known p (used {i = n} d h) = let x = known-needed ss qs walks m closed known n d in (closed n x.0 x.1).uses p h

-- ---- a function that embeds

pub each-stands : (s q : Item) (i j : PlainInfer) (f : ℕ → ℕ) → WellFormed (with_infer s i) → EmbedsLeft s q i j f → EachStands s.statements q.statements (all_walks s.statements i) f
each-stands s q i j f wl h p n =
    let a = assigned-needed s.statements i wl p n in
    let x = h.assignments p a.assignment (needed-left s.statements i p n) a.there in
    (a.assignment, x.0, a.there, x.1, x.2)

pub each-stands-for : (s q : Item) (i j : PlainInfer) (f : ℕ → ℕ) (k : ℕ) → WellFormed (with_infer s i) → EmbedsLeft s q i j f → EachStands s.statements q.statements (walks_with s.statements i (take k (conditions_in s.statements))) f
each-stands-for s q i j f k wl h p n = each-stands s q i j f wl h p (needed_more (walks-in s.statements i k) n)

pub all-taken : (xs : List ℕ) → take (length xs) xs ≡ xs
all-taken [] = refl
all-taken (x ∷ xs) = ap (λ z. x ∷ z) (all-taken xs)

-- all conditions stand in the query
pub reached-embeds : (s q : Item) (i j : PlainInfer) (m : List (Option ℕ)) (k : ℕ) → WellFormed (with_infer s i) → k ≡ length (conditions_in s.statements) → IsReached s.statements q.statements i j m k → WantsWithin i.attributes j.attributes
    → (f : ℕ → ℕ) → Follows m f → EmbedsLeft s q i j f
reached-embeds s q i j m k wl e h wants f w = record {
  root = w i.value j.value h.root;
  one_to_one = h.one_to_one f w;
  assignments = assignments;
  conditions = λ p c at t. h.met f w p c (subst (λ z. Has z p) (sym all) (has-condition s.statements p c at t)) at;
  wanted = wants;
}
  where
    all : take k (conditions_in s.statements) ≡ conditions_in s.statements
    all = ap (λ n. take n (conditions_in s.statements)) e ∙ all-taken (conditions_in s.statements)

    walks : walks_with s.statements i (take k (conditions_in s.statements)) ≡ all_walks s.statements i
    walks = ap (walks_with s.statements i) all

    at-known : (p : ℕ) (a : PlainAssignment) → slice_get s.statements p ≡ Some (assigned a) → (r : ℕ) → GoesTo m p r → (b : PlainAssignment) × (slice_get q.statements (f p) ≡ Some (assigned b)) × StandsFor f a b
    at-known p a at r g =
        let x = (h.closed p r g).stands f w in
        let same : x.0 ≡ a = let y : Some (assigned x.0) ≡ Some (assigned a) = sym x.2 ∙ at in cc in
        (x.1, ap (slice_get q.statements) (w p r g) ∙ x.3, subst (λ z. StandsFor f z x.1) same x.4)

    assignments : (p : ℕ) (a : PlainAssignment) → NeededIn (with_infer s i) p → slice_get s.statements p ≡ Some (assigned a) → (b : PlainAssignment) × (slice_get q.statements (f p) ≡ Some (assigned b)) × StandsFor f a b
    assignments p a n at = elim (left-cases s.statements i p n) [
      | inl c ↦ (let x = condition-in s.statements p c in
          let y : x.statement ≡ assigned a = same_Some x.statement (assigned a) (sym x.there ∙ at) in
          let f : false ≡ true = subst (λ z. IsTrue (is_condition z)) y x.is in absurd (cc))
      | inr d ↦ (let g = known-needed s.statements q.statements (walks_with s.statements i (take k (conditions_in s.statements))) m h.closed h.known p (subst (λ z. Needed s.statements z p) (sym walks) d) in
          at-known p a at g.0 g.1)
    ]

-- ---- the root

pub none-taken : (xs : List ℕ) → take 0 xs ≡ []
none-taken [] = refl
none-taken (x ∷ xs) = refl

root-walks : (ss : List PlainStatement) (i : PlainInfer) → walks_with ss i (take 0 (conditions_in ss)) ≡ i.value ∷ []
root-walks ss i = ap (walks_with ss i) (none-taken (conditions_in ss))

-- the root is bound, and the map was walked from there
pub reached-root : (ss qs : List PlainStatement) (i j : PlainInfer) (none bound m : List (Option ℕ)) → length none ≡ length ss → ((p q : ℕ) → GoesTo none p q → ⊥) → Binds none bound (i.value ∷ []) → GoesTo bound i.value j.value
    → (KnownAreNeeded ss (i.value ∷ []) bound → IsWalked ss qs (i.value ∷ []) bound m) → IsOneToOne m → IsReached ss qs i j m 0
reached-root ss qs i j none bound m l empty b at walk one = record {
  long = w.long ∙ b.long ∙ l;
  needed = subst (λ z. KnownAreNeeded ss z m) (sym (root-walks ss i)) w.needed;
  closed = w.closed;
  known = λ p h. known p (subst (λ z. Has z p) (root-walks ss i) h);
  root = w.kept i.value j.value at;
  one_to_one = λ f follows p r n d e. (
      let x = at-root p n in let y = at-root r d in
      let same : x.0 ≡ y.0 = sym (follows p x.0 x.1) ∙ e ∙ follows r y.0 y.1 in
      one p r x.0 x.1 (subst (λ z. GoesTo m r z) (sym same) y.1));
  met = λ f follows c s h e. absurd (subst (λ z. Has z c) (none-taken (conditions_in ss)) h);
}
  where
    first-needed : KnownAreNeeded ss (i.value ∷ []) bound
    first-needed p q g = elim (b.only p q g) [ inl x ↦ absurd (empty p q x) | inr h ↦ walked h ]

    w : IsWalked ss qs (i.value ∷ []) bound m
    w = walk first-needed

    known : (p : ℕ) → Has (i.value ∷ []) p → (q : ℕ) × GoesTo m p q
    known p (inl e) = (j.value, subst (λ z. GoesTo m z j.value) e (w.kept i.value j.value at))
    known p (inr h) = absurd h

    at-root : (p : ℕ) → Needed ss (i.value ∷ []) p → (q : ℕ) × GoesTo m p q
    at-root p n = known-needed ss qs (i.value ∷ []) m w.closed known p n

-- ---- one more condition

flat-append : (g : ℕ → List ℕ) (xs : List ℕ) (c y : ℕ) → Has (flat_map g (xs ++ c ∷ [])) y → Has (flat_map g xs) y ⊎ Has (g c) y
flat-append g xs c y h = let r = flat-from g (xs ++ c ∷ []) y h in elim (Has-cases xs (c ∷ []) r.0 r.1) [
  | inl a ↦ inl (flat-has g xs r.0 y a r.2)
  | inr b ↦ elim b [ inl e ↦ inr (subst (λ z. Has (g z) y) (sym e) r.2) | inr n ↦ absurd n ]
]

flat-front : (g : ℕ → List ℕ) (xs : List ℕ) (c y : ℕ) → Has (flat_map g xs) y → Has (flat_map g (xs ++ c ∷ [])) y
flat-front g xs c y h = let r = flat-from g xs y h in flat-has g (xs ++ c ∷ []) r.0 y (Has-left xs (c ∷ []) r.0 r.1) r.2

flat-last : (g : ℕ → List ℕ) (xs : List ℕ) (c y : ℕ) → Has (g c) y → Has (flat_map g (xs ++ c ∷ [])) y
flat-last g xs c y h = flat-has g (xs ++ c ∷ []) c y (Has-right xs (c ∷ []) c (inl refl)) h

-- the map before, and the one that the next condition was bound in
pub next-needed : (ss : List PlainStatement) (i : PlainInfer) (cs : List ℕ) (c : ℕ) (m bound : List (Option ℕ)) → KnownAreNeeded ss (walks_with ss i cs) m → Binds m bound (used_at ss c) → KnownAreNeeded ss (walks_with ss i (cs ++ c ∷ [])) bound
next-needed ss i cs c m bound h b p q g = elim (b.only p q g) [
  | inl x ↦ needed_more (more cs c) (h p q x)
  | inr u ↦ walked (inr (flat-last (used_at ss) cs c p u))
]
  where
    more : (cs : List ℕ) (c y : ℕ) → Has (walks_with ss i cs) y → Has (walks_with ss i (cs ++ c ∷ [])) y
    more cs c y (inl e) = inl e
    more cs c y (inr h) = inr (flat-front (used_at ss) cs c y h)

pub has-at : {X : Type 0} (xs : List X) (n : ℕ) (x : X) → slice_get xs n ≡ Some x → Has xs x
has-at [] n x e = absurd (cc)
has-at (y ∷ ys) zero x e = inl (same_Some y x e)
has-at (y ∷ ys) (suc n) x e = inr (has-at ys n x e)

pub reached-next : (ss qs : List PlainStatement) (i j : PlainInfer) (m bound new : List (Option ℕ)) (k c d : ℕ) → IsReached ss qs i j m k → take (suc k) (conditions_in ss) ≡ take k (conditions_in ss) ++ c ∷ []
    → Binds m bound (used_at ss c) → ((f : ℕ → ℕ) (s : PlainStatement) → Follows bound f → slice_get ss c ≡ Some s → slice_get qs d ≡ Some (carried f s))
    → IsWalked ss qs (walks_with ss i (take k (conditions_in ss) ++ c ∷ [])) bound new → IsReached ss qs i j new (suc k)
reached-next ss qs i j m bound new k c d h t b sound w = record {
  long = w.long ∙ b.long ∙ h.long;
  needed = subst (λ z. KnownAreNeeded ss (walks_with ss i z) new) (sym t) w.needed;
  closed = w.closed;
  known = λ p x. known p (subst (λ z. Has (walks_with ss i z) p) t x);
  root = w.kept i.value j.value (b.kept i.value j.value h.root);
  one_to_one = λ f follows. h.one_to_one f (before f follows);
  met = λ f follows c' s x e. met f follows c' s (subst (λ z. Has z c') t x) e;
}
  where
    cs : List ℕ
    cs = take k (conditions_in ss)

    bound-before : (f : ℕ → ℕ) → Follows new f → Follows bound f
    bound-before f follows p q g = follows p q (w.kept p q g)

    before : (f : ℕ → ℕ) → Follows new f → Follows m f
    before f follows p q g = follows p q (w.kept p q (b.kept p q g))

    kept : (p : ℕ) → (q : ℕ) × GoesTo bound p q → (q : ℕ) × GoesTo new p q
    kept p x = (x.0, w.kept p x.0 x.1)

    known-old : (p : ℕ) → (q : ℕ) × GoesTo m p q → (q : ℕ) × GoesTo new p q
    known-old p x = (x.0, w.kept p x.0 (b.kept p x.0 x.1))

    known : (p : ℕ) → Has (walks_with ss i (take k (conditions_in ss) ++ c ∷ [])) p → (q : ℕ) × GoesTo new p q
    known p (inl e) = known-old p (h.known p (inl e))
    known p (inr x) = elim (flat-append (used_at ss) (take k (conditions_in ss)) c p x) [ inl y ↦ known-old p (h.known p (inr y)) | inr y ↦ kept p (b.known p y) ]

    met : (f : ℕ → ℕ) → Follows new f → (c' : ℕ) (s : PlainStatement) → Has (take k (conditions_in ss) ++ c ∷ []) c' → slice_get ss c' ≡ Some s → Has qs (carried f s)
    met f follows c' s x e = elim (Has-cases (take k (conditions_in ss)) (c ∷ []) c' x) [
      | inl y ↦ h.met f (before f follows) c' s y e
      | inr y ↦ elim y [ inl same ↦ has-at qs d (carried f s) (sound f s (bound-before f follows) (ap (slice_get ss) same ∙ e)) | inr n ↦ absurd n ]
    ]

-- ---- a function that embeds meets each condition

pub at-has : {X : Type 0} (xs : List X) (x : X) → Has xs x → (n : ℕ) × (slice_get xs n ≡ Some x)
at-has [] x h = absurd h
at-has (y ∷ ys) x (inl e) = (0, ap (λ z. Some z) e)
at-has (y ∷ ys) x (inr h) = let r = at-has ys x h in (suc r.0, r.1)

-- where the condition stands in the query
pub record IsMetAt (s q : Item) (f : ℕ → ℕ) (c : ℕ) : Type 0 where
  pub statement : PlainStatement
  pub there : slice_get s.statements c ≡ Some statement
  pub is : IsTrue (is_condition statement)
  pub image : ℕ
  pub at : slice_get q.statements image ≡ Some (carried f statement)
  pub among : Has (conditions_in q.statements) image

pub met-at : (s q : Item) (i j : PlainInfer) (f : ℕ → ℕ) (c : ℕ) → EmbedsLeft s q i j f → Has (conditions_in s.statements) c → IsMetAt s q f c
met-at s q i j f c h m =
    let x = condition-in s.statements c m in
    let r = at-has q.statements (carried f x.statement) (h.conditions c x.statement x.there x.is) in
    record {
      statement = x.statement;
      there = x.there;
      is = x.is;
      image = r.0;
      at = r.1;
      among = has-condition q.statements r.0 (carried f x.statement) r.1 (subst (λ z. IsTrue z) (sym (condition-carried f x.statement)) x.is);
    }
