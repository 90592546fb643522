-- Definitions. The walks over a graph visit its roots, its path conditions, and the statements reachable from these.
use Rattle.std.specs.Prelude.{◌≡◌, ℕ, ◌<◌, ◌≤◌, ◌++◌, length, List, map, slice_get}
use Rattle.souper_graph.specs.declared.stringify.errors.TextError.{TextError}
use Rattle.souper_graph.specs.declared.stringify.errors.TextError.TheVariants.{OutOfRange, NotAnAssignment, NotABlock, OutOfMemory}
use Rattle.souper_graph.specs.declared.stringify.order.Target.{Target}
use Rattle.souper_graph.specs.declared.stringify.order.Target.TheVariants.{Value, Block, Condition}
use Rattle.souper_graph.specs.Values.{PlainStatement, Item}
use Rattle.souper_graph.specs.Uses.{Use, value_use, block_use, conditions, first_roots, last_roots}
use Rattle.souper_graph.specs.WellFormed.{IsAssigned, IsBlock}

abbrev pub position_of_target : Target → ℕ
position_of_target (Value i) = i
position_of_target (Block i) = i
position_of_target (Condition i) = i

abbrev pub target_of : Use → Target
target_of (value_use i) = Value i
target_of (block_use i) = Block i

-- the statement at the position is of the kind that the target asks for
abbrev pub IsMetTarget : List PlainStatement → Target → Type 0
IsMetTarget ss (Value i) = IsAssigned (slice_get ss i)
IsMetTarget ss (Block i) = IsBlock (slice_get ss i)
IsMetTarget ss (Condition i) = i < length ss

-- the error states the fault of the target, or is out of memory
abbrev pub IsFaultAt : List PlainStatement → Target → TextError → Type 0
IsFaultAt ss t (OutOfRange i) = (position_of_target t ≡ i) × (length ss ≤ i)
IsFaultAt ss t (NotAnAssignment i) = (t ≡ Value i) × (i < length ss) × ¬ IsAssigned (slice_get ss i)
IsFaultAt ss t (NotABlock i) = (t ≡ Block i) × (i < length ss) × ¬ IsBlock (slice_get ss i)
IsFaultAt ss t OutOfMemory = Unit {0}

-- where the walks of an item begin, in order, up to its infer line
abbrev pub first_targets : Item → List Target
first_targets a = map target_of (first_roots a.ending) ++ map (λ i. Condition i) (conditions a)

-- where all its walks begin, in order
abbrev pub targets_of : Item → List Target
targets_of a = first_targets a ++ map target_of (last_roots a.ending)

-- the item has these statements, and these are its walks, of which `before` come before its infer line
pub record IsWalkedBy (a : Item) (ss : List PlainStatement) (walks : List Target) (before : ℕ) : Type 0 where
  pub same_statements : a.statements ≡ ss
  pub same_walks : walks ≡ targets_of a
  pub same_before : before ≡ length (first_targets a)
