-- Definitions. The key of a left-hand side: the text of what its root alone needs, without facts, named by printed order.
use Rattle.std.specs.Prelude.{◌≡◌, ℕ, List, [], ◌∷◌, map, None, Some, slice_get}
use Rattle.souper_graph.specs.Values.{var, PlainAssignment, PlainStatement, assigned, condition, block_condition, inferred, Item}
use Rattle.souper_graph.specs.Uses.{Needed}
use Rattle.souper_graph.specs.Sameness.{carried_rhs}
use Rattle.souper_graph.specs.Renaming.{renamed}
use Rattle.souper_graph.specs.Text.{text_of}

-- in place of a path condition: an input that nothing uses
abbrev pub unused : PlainStatement
unused = assigned (record { name = []; ty = None; value = var; attributes = [] })

-- an assignment without its facts
abbrev pub bare_statement : PlainStatement → PlainStatement
bare_statement (assigned a) = assigned (record a { attributes = [] })
bare_statement (condition p) = unused
bare_statement (block_condition p) = unused

-- the root alone
abbrev pub bare : List PlainStatement → ℕ → Item
bare ss i = record { statements = map bare_statement ss; ending = inferred (record { value = i; attributes = [] }) }

abbrev pub root_key : List PlainStatement → ℕ → List ℕ
root_key ss i = text_of (renamed (bare ss i))

-- what two roots need is the same graph up to names and facts
pub record SameRoots (ss : List PlainStatement) (i : ℕ) (ts : List PlainStatement) (j : ℕ) : Type 0 where
  pub to : ℕ → ℕ
  pub root : to i ≡ j
  pub one_to_one : (p r : ℕ) → Needed ss (i ∷ []) p → Needed ss (i ∷ []) r → to p ≡ to r → p ≡ r
  pub assignments : (p : ℕ) (a : PlainAssignment) → Needed ss (i ∷ []) p → slice_get ss p ≡ Some (assigned a)
      → (b : PlainAssignment) × (slice_get ts (to p) ≡ Some (assigned b)) × (b.ty ≡ a.ty) × (b.value ≡ carried_rhs to a.value)
