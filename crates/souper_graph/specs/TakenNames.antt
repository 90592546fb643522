-- Definitions. What a builder knows of the names of its statements.
use Rattle.std.specs.Prelude.{◌≡◌, ℕ, ◌<◌, ◌≤◌, ◌^◌, true, List, length}
use Rattle.std.specs.BTreeSet.{contains_text}
use Rattle.souper_graph.specs.declared.ast.taken_names.TakenNames.{TakenNames}
use Rattle.souper_graph.specs.Values.{PlainStatement}
use Rattle.souper_graph.specs.Text.{name_at}
use Rattle.souper_graph.specs.Renaming.{name_of_index}
use Rattle.souper_graph.specs.Building.{IsNameAmong}

pub record Knows (ss : List PlainStatement) (taken : TakenNames) : Type 0 where
  pub within : taken.looked_at ≤ length ss
  -- of the statements that were looked at, each name that is a number from the number of statements on is in the set
  pub entered : (p n : ℕ) → p < taken.looked_at → length ss ≤ n → n < 2 ^ 64 → name_at ss p ≡ name_of_index n → contains_text taken.names (name_of_index n) ≡ true
  pub only : (t : List ℕ) → contains_text taken.names t ≡ true → IsNameAmong ss t
  pub passed : (j : ℕ) → length ss ≤ j → j < taken.next → IsNameAmong ss (name_of_index j)
