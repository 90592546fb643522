-- Definitions. When a stored replacement answers a left-hand side that may have more conditions and facts.
use Rattle.std.specs.Prelude.{◌≡◌, ℕ, false, List, [], ◌∷◌, Bool, IsTrue, Some, slice_get}
use Rattle.souper_graph.specs.declared.ast.operands.Operand.{Operand}
use Rattle.souper_graph.specs.Values.{PlainAttribute, has_external_uses, PlainRootAttribute, demanded_bits, PlainAssignment, PlainStatement, assigned, PlainInfer, inferred, replaced, Item}
use Rattle.souper_graph.specs.Uses.{Has, is_condition, Needed, NeededIn}
use Rattle.souper_graph.specs.Sameness.{carried_rhs, carried}
use Rattle.souper_graph.specs.LeftSides.{with_infer}

-- each of the first facts is among the second; that a value has external uses is no fact
abbrev pub HasFacts : List PlainAttribute → List PlainAttribute → Type 0
HasFacts wanted given = (f : PlainAttribute) → Has wanted f → (f ≡ has_external_uses → ⊥) → Has given f

-- the assignment b has the type and, under the map, the value of a, and its facts; b may have more facts, and another name
pub record StandsFor (to : ℕ → ℕ) (a b : PlainAssignment) : Type 0 where
  pub ty : b.ty ≡ a.ty
  pub value : b.value ≡ carried_rhs to a.value
  pub facts : HasFacts a.attributes b.attributes

-- the bit at index k is not demanded
abbrev pub IsUnwanted : List PlainRootAttribute → ℕ → Type 0
IsUnwanted attributes k = (bits : List Bool) × Has attributes (demanded_bits bits) × (slice_get bits k ≡ Some false)

-- the bits that the second demands are among those that the first demands
abbrev pub WantsWithin : List PlainRootAttribute → List PlainRootAttribute → Type 0
WantsWithin stored query = (k : ℕ) → IsUnwanted stored k → IsUnwanted query k

-- what a root alone needs, without the path conditions
abbrev pub RootNeeds : List PlainStatement → PlainInfer → ℕ → Type 0
RootNeeds ss i p = Needed ss (i.value ∷ []) p

-- the map carries the left-hand side of s, with the infer line i, into q, with the infer line j
pub record EmbedsLeft (s q : Item) (i j : PlainInfer) (to : ℕ → ℕ) : Type 0 where
  -- the root is the root, and what the one needs is the same graph as what the other needs
  pub root : to i.value ≡ j.value
  pub one_to_one : (p r : ℕ) → RootNeeds s.statements i p → RootNeeds s.statements i r → to p ≡ to r → p ≡ r
  -- each assignment of the left-hand side, what conditions alone need included
  pub assignments : (p : ℕ) (a : PlainAssignment) → NeededIn (with_infer s i) p → slice_get s.statements p ≡ Some (assigned a)
      → (b : PlainAssignment) × (slice_get q.statements (to p) ≡ Some (assigned b)) × StandsFor to a b
  -- each path condition, in any order, as often as may be
  pub conditions : (p : ℕ) (c : PlainStatement) → slice_get s.statements p ≡ Some c → IsTrue (is_condition c) → Has q.statements (carried to c)
  pub wanted : WantsWithin i.attributes j.attributes

-- s is a replacement by a result, q a left-hand side
pub record Embeds (s q : Item) (to : ℕ → ℕ) : Type 0 where
  pub infer : PlainInfer
  pub result : Operand
  pub stored : s.ending ≡ replaced infer result
  pub root : PlainInfer
  pub query : q.ending ≡ inferred root
  pub left : EmbedsLeft s q infer root to
