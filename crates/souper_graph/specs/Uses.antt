-- Definitions. Which positions a node names, and which statements an item needs.
use Rattle.std.specs.Prelude.{◌≡◌, ℕ, suc, ◌<◌, ◌⊎◌, Bool, true, false, List, [], ◌∷◌, ◌++◌, map, flat_map, Option, Some, None, if◌then◌else◌, slice_get}
use Rattle.souper_graph.specs.declared.ast.operands.Operand.{Operand}
use Rattle.souper_graph.specs.declared.ast.operands.Operand.TheVariants.{Value, Constant}
use Rattle.souper_graph.specs.Instructions.{operands_of}
use Rattle.souper_graph.specs.Values.{PlainRhs, phi, instruction, PlainStatement, assigned, condition, block_condition, Ending, inferred, resulting, replaced, candidate, Item}

-- the list has the element
abbrev pub Has : {A : Type 0} → List A → A → Type 0
Has [] i = ⊥
Has (x ∷ xs) i = (x ≡ i) ⊎ Has xs i

-- a use of a position, as a value or as a block
pub data Use : Type 0 where
  value_use : ℕ → Use
  block_use : ℕ → Use

abbrev pub position_of : Use → ℕ
position_of (value_use i) = i
position_of (block_use i) = i

-- a constant uses nothing
abbrev pub uses_of_operand : Operand → List Use
uses_of_operand (Value i) = value_use i ∷ []
uses_of_operand (Constant c) = []

abbrev pub uses_of_operands : List Operand → List Use
uses_of_operands xs = flat_map uses_of_operand xs

abbrev pub uses_of_rhs : PlainRhs → List Use
uses_of_rhs (phi p) = block_use p.block ∷ uses_of_operands p.values
uses_of_rhs (instruction i) = uses_of_operands (operands_of i)
uses_of_rhs r = []

-- the uses of a statement, in order, repeats kept
abbrev pub uses_of : PlainStatement → List Use
uses_of (assigned a) = uses_of_rhs a.value
uses_of (condition p) = uses_of_operand p.x ++ uses_of_operand p.y
uses_of (block_condition p) = block_use p.block ∷ (uses_of_operand p.x ++ uses_of_operand p.y)

abbrev pub uses_of_optional : Option PlainStatement → List Use
uses_of_optional None = []
uses_of_optional (Some s) = uses_of s

-- the uses of the statement at a position; none past the end
abbrev pub uses_at : List PlainStatement → ℕ → List Use
uses_at ss i = uses_of_optional (slice_get ss i)

-- the positions that the statement at a position uses
abbrev pub used_at : List PlainStatement → ℕ → List ℕ
used_at ss i = map position_of (uses_at ss i)

-- the statement is a path condition
abbrev pub is_condition : PlainStatement → Bool
is_condition (assigned a) = false
is_condition s = true

-- the positions of the path conditions, ascending, if the first statement is at k
abbrev pub conditions_from : ℕ → List PlainStatement → List ℕ
conditions_from k [] = []
conditions_from k (s ∷ ss) = if is_condition s then k ∷ conditions_from (suc k) ss else conditions_from (suc k) ss

abbrev pub conditions : Item → List ℕ
conditions a = conditions_from 0 a.statements

-- the roots that are walked before the path conditions
abbrev pub first_roots : Ending → List Use
first_roots (inferred i) = value_use i.value ∷ []
first_roots (resulting r) = uses_of_operand r
first_roots (replaced i r) = value_use i.value ∷ []
first_roots (candidate c) = uses_of_operand c.lhs ++ uses_of_operand c.rhs

-- the roots that are walked after them
abbrev pub last_roots : Ending → List Use
last_roots (replaced i r) = uses_of_operand r
last_roots e = []

abbrev pub roots_of : Ending → List Use
roots_of e = first_roots e ++ last_roots e

-- where the walks of an item begin, in order, up to its infer line
abbrev pub first_walks : Item → List ℕ
first_walks a = map position_of (first_roots a.ending) ++ conditions a

-- where all its walks begin, in order
abbrev pub walks_of : Item → List ℕ
walks_of a = first_walks a ++ map position_of (last_roots a.ending)

-- the least set that has the walks and is closed under uses
pub data Needed (ss : List PlainStatement) (walks : List ℕ) : ℕ → Type 0 where
  walked : {i : ℕ} → Has walks i → Needed ss walks i
  used : {i j : ℕ} → Needed ss walks i → Has (used_at ss i) j → Needed ss walks j

-- the statement at the position is a root, a path condition, or reachable from these
abbrev pub NeededIn : Item → ℕ → Type 0
NeededIn a i = Needed a.statements (walks_of a) i

-- each use of a needed statement is of a lower position
abbrev pub UsesBelow : Item → Type 0
UsesBelow a = (i u : ℕ) → NeededIn a i → Has (used_at a.statements i) u → u < i
