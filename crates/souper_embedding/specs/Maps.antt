-- Definitions. A map from positions to positions that is known at some of them.
use Rattle.std.specs.Prelude.{◌≡◌, ◌⊎◌, ℕ, ◌<◌, List, length, Option, Some, slice_get}
use Rattle.souper_graph.specs.Values.{PlainAssignment, PlainStatement, assigned}
use Rattle.souper_graph.specs.Uses.{Has, used_at, Needed}
use Rattle.souper_embedding.specs.Embedding.{StandsFor}

-- the map is known at p, and is q there
abbrev pub GoesTo : List (Option ℕ) → ℕ → ℕ → Type 0
GoesTo m p q = slice_get m p ≡ Some (Some q)

-- the function is the map where it is known
abbrev pub Follows : List (Option ℕ) → (ℕ → ℕ) → Type 0
Follows m f = (p q : ℕ) → GoesTo m p q → f p ≡ q

-- the new map is the old one, known at these positions too, and nowhere else
pub record Binds (old new : List (Option ℕ)) (ps : List ℕ) : Type 0 where
  pub long : length new ≡ length old
  pub kept : (p q : ℕ) → GoesTo old p q → GoesTo new p q
  pub only : (p q : ℕ) → GoesTo new p q → GoesTo old p q ⊎ Has ps p
  pub known : (p : ℕ) → Has ps p → (q : ℕ) × GoesTo new p q

-- each of these positions is less than n
abbrev pub AreBelow : ℕ → List ℕ → Type 0
AreBelow n ps = (p : ℕ) → Has ps p → p < n

-- under the map, position q has an assignment that stands for the one at position p
abbrev pub StandsAt : List PlainStatement → List PlainStatement → (ℕ → ℕ) → ℕ → ℕ → Type 0
StandsAt ss qs f p q = (a : PlainAssignment) × (b : PlainAssignment) × (slice_get ss p ≡ Some (assigned a)) × (slice_get qs q ≡ Some (assigned b)) × StandsFor f a b

-- each use of what these walks need is of a lower position
abbrev pub UseBelow : List PlainStatement → List ℕ → Type 0
UseBelow ss walks = (p u : ℕ) → Needed ss walks p → Has (used_at ss p) u → u < p

-- the map is known only where the walks need a statement
abbrev pub KnownAreNeeded : List PlainStatement → List ℕ → List (Option ℕ) → Type 0
KnownAreNeeded ss walks m = (p q : ℕ) → GoesTo m p q → Needed ss walks p

-- each statement that the walks need has one that stands for it, under the function
abbrev pub EachStands : List PlainStatement → List PlainStatement → List ℕ → (ℕ → ℕ) → Type 0
EachStands ss qs walks f = (p : ℕ) → Needed ss walks p → StandsAt ss qs f p (f p)

-- a statement stands for the one at p, where the map is known, and the map is known at what that one uses
pub record IsClosedAt (ss qs : List PlainStatement) (m : List (Option ℕ)) (p q : ℕ) : Type 0 where
  pub stands : (f : ℕ → ℕ) → Follows m f → StandsAt ss qs f p q
  pub uses : (u : ℕ) → Has (used_at ss p) u → (v : ℕ) × GoesTo m u v

-- the new map is the old one, known at what the walks need, and at no more
pub record IsWalked (ss qs : List PlainStatement) (walks : List ℕ) (old new : List (Option ℕ)) : Type 0 where
  pub long : length new ≡ length old
  pub kept : (p q : ℕ) → GoesTo old p q → GoesTo new p q
  pub needed : KnownAreNeeded ss walks new
  pub closed : (p q : ℕ) → GoesTo new p q → IsClosedAt ss qs new p q

-- no two positions go to one
abbrev pub IsOneToOne : List (Option ℕ) → Type 0
IsOneToOne m = (p r q : ℕ) → GoesTo m p q → GoesTo m r q → p ≡ r

-- the map is known nowhere
abbrev pub IsUnknown : List (Option ℕ) → Type 0
IsUnknown m = (p q : ℕ) → GoesTo m p q → ⊥
