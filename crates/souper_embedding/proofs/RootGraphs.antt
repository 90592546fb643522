-- Two roots have one key if and only if what they need is the same graph up to names and facts.
use Rattle.std.proofs.Common.{◌≡◌, ℕ, zero, suc, ◌++◌, inl, inr, map, List, [], ◌∷◌, Option, Some, None, refl, sym, ap, ◌∙◌, subst}
use Rattle.std.specs.Prelude.{slice_get}
use Rattle.std.specs.Option.{option_map}
use Rattle.std.proofs.lemmas.Option.{same_Some}
use Rattle.souper_graph.specs.Values.{PlainAssignment, PlainStatement, assigned, condition, block_condition, PlainInfer, inferred, Item}
use Rattle.souper_graph.specs.Uses.{Has, position_of, uses_of_rhs, uses_of_optional, used_at, conditions_from, Needed, walked, used, NeededIn}
use Rattle.souper_graph.specs.Sameness.{carried, carried_rhs}
use Rattle.souper_graph.specs.Renaming.{with_name, nameless, SameUpToNames}
use Rattle.souper_graph.proofs.Lists.{Has-map, Has-mapped, Has-cases, Has-left}
use Rattle.souper_graph.proofs.Sameness.Carrying.{uses-carried, positions-carried}
use Rattle.souper_graph.specs.WellFormed.{WellFormed}
use Rattle.souper_graph.proofs.Order.Needed.{needed_more}
use Rattle.souper_embedding.specs.Embedding.{EmbedsLeft}
use Rattle.souper_embedding.specs.Key.{bare_statement, bare, SameRoots}
use Rattle.souper_embedding.proofs.Searching.{IsAssignedAt, assigned-needed}

-- without names and facts
abbrev strip : PlainStatement → PlainStatement
strip s = with_name [] (bare_statement s)

abbrev stripped : List PlainStatement → List PlainStatement
stripped ss = map (with_name []) (map bare_statement ss)

stripped-at : (ss : List PlainStatement) (p : ℕ) → slice_get (stripped ss) p ≡ option_map strip (slice_get ss p)
stripped-at [] p = refl
stripped-at (s ∷ ss) zero = refl
stripped-at (s ∷ ss) (suc p) = stripped-at ss p

no-conditions : (k : ℕ) (ss : List PlainStatement) → conditions_from k (stripped ss) ≡ []
no-conditions k [] = refl
no-conditions k (assigned a ∷ ss) = no-conditions (suc k) ss
no-conditions k (condition p ∷ ss) = no-conditions (suc k) ss
no-conditions k (block_condition p ∷ ss) = no-conditions (suc k) ss

fewer-uses : (o : Option PlainStatement) (u : ℕ) → Has (map position_of (uses_of_optional (option_map strip o))) u → Has (map position_of (uses_of_optional o)) u
fewer-uses None u h = h
fewer-uses (Some (assigned a)) u h = h
fewer-uses (Some (condition p)) u h = absurd h
fewer-uses (Some (block_condition p)) u h = absurd h

uses-stripped : (ss : List PlainStatement) (p u : ℕ) → Has (used_at (stripped ss) p) u → Has (used_at ss p) u
uses-stripped ss p u h = fewer-uses (slice_get ss p) u (subst (λ o. Has (map position_of (uses_of_optional o)) u) (stripped-at ss p) h)

-- an assignment keeps its uses
uses-kept : (ss : List PlainStatement) (p u : ℕ) → IsAssignedAt ss p → Has (used_at ss p) u → Has (used_at (stripped ss) p) u
uses-kept ss p u a h =
    subst (λ o. Has (map position_of (uses_of_optional o)) u) (sym (stripped-at ss p ∙ ap (option_map strip) a.there))
    (subst (λ o. Has (map position_of (uses_of_optional o)) u) a.there h)

abbrev Bare : List PlainStatement → ℕ → Item
Bare ss i = nameless (bare ss i)

walks-bare : (ss : List PlainStatement) (i p : ℕ) → Has ((i ∷ conditions_from 0 (stripped ss)) ++ []) p → i ≡ p
walks-bare ss i p h = elim (Has-cases (i ∷ conditions_from 0 (stripped ss)) [] p h) [
  | inl a ↦ elim a [ inl e ↦ e | inr c ↦ absurd (subst (λ z. Has z p) (no-conditions 0 ss) c) ]
  | inr b ↦ absurd b
]

from-bare : (ss : List PlainStatement) (i p : ℕ) → NeededIn (Bare ss i) p → Needed ss (i ∷ []) p
from-bare ss i p (walked h) = walked (inl (walks-bare ss i p h))
from-bare ss i p (used {i = n} d h) = used (from-bare ss i n d) (uses-stripped ss n p h)

-- each needed statement is an assignment
abbrev pub NeedsAssignments : List PlainStatement → ℕ → Type 0
NeedsAssignments ss i = (p : ℕ) → Needed ss (i ∷ []) p → IsAssignedAt ss p

to-bare : (ss : List PlainStatement) (i : ℕ) → NeedsAssignments ss i → (p : ℕ) → Needed ss (i ∷ []) p → NeededIn (Bare ss i) p
to-bare ss i ha p (walked (inl e)) = walked (Has-left (i ∷ conditions_from 0 (stripped ss)) [] p (inl e))
to-bare ss i ha p (walked (inr h)) = absurd h
to-bare ss i ha p (used {i = n} d h) = used (to-bare ss i ha n d) (uses-kept ss n p (ha n d) h)

uses-at : (ss : List PlainStatement) (p : ℕ) (a : PlainAssignment) → slice_get ss p ≡ Some (assigned a) → used_at ss p ≡ map position_of (uses_of_rhs a.value)
uses-at ss p a e = ap (λ o. map position_of (uses_of_optional o)) e

-- the uses of the image are the images of the uses
image-uses : (ss ts : List PlainStatement) (to : ℕ → ℕ) (p : ℕ) (a b : PlainAssignment) → slice_get ss p ≡ Some (assigned a) → slice_get ts (to p) ≡ Some (assigned b) → b.value ≡ carried_rhs to a.value → used_at ts (to p) ≡ map to (used_at ss p)
image-uses ss ts to p a b ea eb v =
    uses-at ts (to p) b eb ∙ ap (λ z. map position_of (uses_of_rhs z)) v ∙ ap (map position_of) (uses-carried to (assigned a)) ∙ positions-carried to (uses_of_rhs a.value) ∙ ap (map to) (sym (uses-at ss p a ea))

image-needed : (ss ts : List PlainStatement) (i j : ℕ) → NeedsAssignments ss i → (h : SameRoots ss i ts j) → (p : ℕ) → Needed ss (i ∷ []) p → Needed ts (j ∷ []) (h.to p)
image-needed ss ts i j ha h p (walked (inl e)) = walked (inl (sym h.root ∙ ap h.to e))
image-needed ss ts i j ha h p (walked (inr x)) = absurd x
image-needed ss ts i j ha h p (used {i = n} d x) =
    let a = ha n d in
    let b = h.assignments n a.assignment d a.there in
    used (image-needed ss ts i j ha h n d) (subst (λ z. Has z (h.to p)) (sym (image-uses ss ts h.to n a.assignment b.0 a.there b.1 b.3)) (Has-map h.to (used_at ss n) p x))

image-onto : (ss ts : List PlainStatement) (i j : ℕ) → NeedsAssignments ss i → (h : SameRoots ss i ts j) → (y : ℕ) → Needed ts (j ∷ []) y → (p : ℕ) × Needed ss (i ∷ []) p × (h.to p ≡ y)
image-onto ss ts i j ha h y (walked (inl e)) = (i, walked (inl refl), h.root ∙ e)
image-onto ss ts i j ha h y (walked (inr x)) = absurd x
image-onto ss ts i j ha h y (used {i = m} d x) =
    let r = image-onto ss ts i j ha h m d in
    let a = ha r.0 r.1 in
    let b = h.assignments r.0 a.assignment r.1 a.there in
    let in-image : Has (map h.to (used_at ss r.0)) y = subst (λ z. Has z y) (image-uses ss ts h.to r.0 a.assignment b.0 a.there b.1 b.3) (subst (λ z. Has (used_at ts z) y) (sym r.2) x) in
    let u = Has-mapped h.to (used_at ss r.0) y in-image in
    (u.0, used r.1 u.1, u.2)

-- the assignment without name and facts
abbrev core : PlainAssignment → PlainAssignment
core a = record { name = []; ty = a.ty; value = a.value; attributes = [] }

core-at : (ss : List PlainStatement) (p : ℕ) (a : PlainAssignment) → slice_get ss p ≡ Some (assigned a) → slice_get (stripped ss) p ≡ Some (assigned (core a))
core-at ss p a e = stripped-at ss p ∙ ap (option_map strip) e

same-core : (to : ℕ → ℕ) (a b : PlainAssignment) → b.ty ≡ a.ty → b.value ≡ carried_rhs to a.value → assigned (core b) ≡ carried to (assigned (core a))
same-core to a b t v = ap (λ z. assigned (record { name = []; ty = z; value = b.value; attributes = [] })) t ∙ ap (λ z. assigned (record { name = []; ty = a.ty; value = z; attributes = [] })) v

pub roots-graph : (ss ts : List PlainStatement) (i j : ℕ) → NeedsAssignments ss i → NeedsAssignments ts j → SameRoots ss i ts j → SameUpToNames (bare ss i) (bare ts j)
roots-graph ss ts i j ha at h = record {
  to = h.to;
  needed = λ p n. to-bare ts j at (h.to p) (image-needed ss ts i j ha h p (from-bare ss i p n));
  onto = λ y n. let r = image-onto ss ts i j ha h y (from-bare ts j y n) in (r.0, to-bare ss i ha r.0 r.1, r.2);
  one_to_one = λ p r n d e. h.one_to_one p r (from-bare ss i p n) (from-bare ss i r d) e;
  contents = λ p s n e. (
      let d = from-bare ss i p n in
      let a = ha p d in
      let b = h.assignments p a.assignment d a.there in
      let same : assigned (core a.assignment) ≡ s = same_Some _ _ (sym (core-at ss p a.assignment a.there) ∙ e) in
      core-at ts (h.to p) b.0 b.1 ∙ ap (λ z. Some z) (same-core h.to a.assignment b.0 b.2 b.3 ∙ ap (carried h.to) same));
  ending = ap (λ z. inferred (record { value = z; attributes = [] })) (sym h.root);
  condition_order = λ p r c d l. absurd (subst (λ z. Has z p) (no-conditions 0 ss) c);
}

same-assignment : (a b : PlainAssignment) → assigned a ≡ assigned b → a ≡ b
same-assignment a b e = cc

same-infer : (a b : PlainInfer) → inferred a ≡ inferred b → a ≡ b
same-infer a b e = cc

pub graph-roots : (ss ts : List PlainStatement) (i j : ℕ) → NeedsAssignments ss i → NeedsAssignments ts j → SameUpToNames (bare ss i) (bare ts j) → SameRoots ss i ts j
graph-roots ss ts i j ha at h = record {
  to = h.to;
  root = sym (ap (λ z. z.value) (same-infer (record { value = j; attributes = [] }) (record { value = h.to i; attributes = [] }) h.ending));
  one_to_one = λ p r n d e. h.one_to_one p r (to-bare ss i ha p n) (to-bare ss i ha r d) e;
  assignments = λ p a n e. (
      let bare-needed = to-bare ss i ha p n in
      let b = at (h.to p) (from-bare ts j (h.to p) (h.needed p bare-needed)) in
      let c : Some (assigned (core b.assignment)) ≡ Some (carried h.to (assigned (core a))) = sym (core-at ts (h.to p) b.assignment b.there) ∙ h.contents p (assigned (core a)) bare-needed (core-at ss p a e) in
      let d : core b.assignment ≡ record { name = []; ty = a.ty; value = carried_rhs h.to a.value; attributes = [] } = same-assignment _ _ (same_Some _ _ c) in
      (b.assignment, b.there, ap (λ z. z.ty) d, ap (λ z. z.value) d));
}

-- what embeds has the same root
pub embeds-roots : (s q : Item) (i j : PlainInfer) (f : ℕ → ℕ) → EmbedsLeft s q i j f → SameRoots s.statements i.value q.statements j.value
embeds-roots s q i j f h = record {
  to = f;
  root = h.root;
  one_to_one = h.one_to_one;
  assignments = λ p a n e. (let x = h.assignments p a (needed_more (root-walked s i) n) e in (x.0, x.1, x.2.ty, x.2.value));
}
  where
    root-walked : (s : Item) (i : PlainInfer) (p : ℕ) → Has (i.value ∷ []) p → Has ((i.value ∷ conditions_from 0 s.statements) ++ []) p
    root-walked s i p (inl e) = Has-left (i.value ∷ conditions_from 0 s.statements) [] p (inl e)
    root-walked s i p (inr h) = absurd h

pub needs-assignments : (ss : List PlainStatement) (i : PlainInfer) → WellFormed (record { statements = ss; ending = inferred i }) → NeedsAssignments ss i.value
needs-assignments ss i wl p n = assigned-needed ss i wl p (needed_more (λ r h. elim h [ inl e ↦ inl e | inr x ↦ absurd x ]) n)
