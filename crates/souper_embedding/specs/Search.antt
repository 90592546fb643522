-- Definitions. The search for the path conditions of a stored replacement among a query's.
use Rattle.std.specs.Prelude.{◌≡◌, ℕ, suc, List, ◌∷◌, flat_map, length, take, Option, Some, slice_get, IsTrue}
use Rattle.souper_graph.specs.Values.{PlainStatement, PlainInfer, inferred, Item}
use Rattle.souper_graph.specs.Uses.{Has, used_at, is_condition, conditions_from}
use Rattle.souper_graph.specs.WellFormed.{WellFormed}
use Rattle.souper_graph.specs.Sameness.{carried}
use Rattle.souper_embedding.specs.Embedding.{RootNeeds, EmbedsLeft}
use Rattle.souper_embedding.specs.Maps.{GoesTo, Follows, KnownAreNeeded, IsClosedAt}

-- the positions of all path conditions
abbrev pub conditions_in : List PlainStatement → List ℕ
conditions_in ss = conditions_from 0 ss

-- the root, and what these path conditions use
abbrev pub walks_with : List PlainStatement → PlainInfer → List ℕ → List ℕ
walks_with ss i cs = i.value ∷ flat_map (used_at ss) cs

-- these statements with this infer line
abbrev pub left_item : List PlainStatement → PlainInfer → Item
left_item ss i = record { statements = ss; ending = inferred i }

-- the map is known at what the root and the first k path conditions need, and these stand in the query
pub record IsReached (ss qs : List PlainStatement) (i j : PlainInfer) (m : List (Option ℕ)) (k : ℕ) : Type 0 where
  pub long : length m ≡ length ss
  pub needed : KnownAreNeeded ss (walks_with ss i (take k (conditions_in ss))) m
  pub closed : (p q : ℕ) → GoesTo m p q → IsClosedAt ss qs m p q
  pub known : (p : ℕ) → Has (walks_with ss i (take k (conditions_in ss))) p → (q : ℕ) × GoesTo m p q
  pub root : GoesTo m i.value j.value
  pub one_to_one : (f : ℕ → ℕ) → Follows m f → (p r : ℕ) → RootNeeds ss i p → RootNeeds ss i r → f p ≡ f r → p ≡ r
  pub met : (f : ℕ → ℕ) → Follows m f → (c : ℕ) (s : PlainStatement) → Has (take k (conditions_in ss)) c → slice_get ss c ≡ Some s → Has qs (carried f s)

-- the search has come to the path condition of index k, at position p
pub record IsAtCondition (ss qs : List PlainStatement) (i j : PlainInfer) (m : List (Option ℕ)) (k p : ℕ) : Type 0 where
  pub formed : WellFormed (left_item ss i)
  pub at : slice_get (conditions_in ss) k ≡ Some p
  pub reached : IsReached ss qs i j m k

-- the new map is the old one, and it takes the path condition of index k, at position p, to q
pub record IsMet (ss qs : List PlainStatement) (i j : PlainInfer) (old new : List (Option ℕ)) (k p q : ℕ) : Type 0 where
  pub reached : IsReached ss qs i j new (suc k)
  pub kept : (f : ℕ → ℕ) → Follows new f → Follows old f
  pub image : (f : ℕ → ℕ) (s : PlainStatement) → Follows new f → slice_get ss p ≡ Some s → slice_get qs q ≡ Some (carried f s)

-- a function that embeds follows the map, and takes the path condition at p to q
pub record IsTaken (ss qs : List PlainStatement) (i j : PlainInfer) (m : List (Option ℕ)) (p q : ℕ) (f : ℕ → ℕ) : Type 0 where
  pub embeds : EmbedsLeft (left_item ss i) (left_item qs j) i j f
  pub follows : Follows m f
  pub statement : PlainStatement
  pub there : slice_get ss p ≡ Some statement
  pub is : IsTrue (is_condition statement)
  pub image : slice_get qs q ≡ Some (carried f statement)
