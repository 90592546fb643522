-- Definitions. What the builders append to their arenas, and what they require.
use Rattle.std.specs.Prelude.{◌≡◌, ℕ, ◌<◌, ◌≤◌, List, [], ◌∷◌, ◌++◌, map, length, codes, decimal, Option, Some, None, slice_get}
use Rattle.std.specs.declared.alloc.Global.{Global}
use Rattle.std.specs.declared.string.String.{String}
use Rattle.std.specs.String.{string_bytes}
use Rattle.souper_graph.specs.declared.ast.operands.«Type».{«Type» as Ty}
use Rattle.souper_graph.specs.declared.ast.statements.Statement.{Statement}
use Rattle.souper_graph.specs.declared.ast.items.Replacement.{Replacement}
use Rattle.souper_graph.specs.declared.ast.items.Replacement.TheVariants.{LhsRhs, Cand}
use Rattle.souper_graph.specs.Values.{PlainStatement, PlainRhs, PlainAttribute, assigned}
use Rattle.souper_graph.specs.View.{view_statement}
use Rattle.souper_graph.specs.Text.{name_at}
use Rattle.souper_graph.specs.Renaming.{name_of_index}

-- a given name begins with `%` (37)
abbrev pub BeginsWithPercent : Option (String Global) → Type 0
BeginsWithPercent None = Unit {0}
BeginsWithPercent (Some name) = slice_get (string_bytes name) 0 ≡ Some 37

-- the name is that of one of the statements
abbrev pub IsNameAmong : List PlainStatement → List ℕ → Type 0
IsNameAmong ss t = (p : ℕ) × (p < length ss) × (name_at ss p ≡ t)

-- the name is `%` and the first number, from the number of statements on, that names none of them
pub record IsFirstFree (ss : List PlainStatement) (t : List ℕ) : Type 0 where
  pub number : ℕ
  pub from : length ss ≤ number
  pub is : t ≡ name_of_index number
  pub free : IsNameAmong ss t → ⊥
  pub least : (j : ℕ) → length ss ≤ j → j < number → IsNameAmong ss (name_of_index j)

-- the given name, or `%` and the number in decimal
abbrev pub chosen_name : Option (String Global) → ℕ → List ℕ
chosen_name None n = codes "%" ++ decimal n
chosen_name (Some name) n = string_bytes name

-- the assignment that is appended to n statements
abbrev pub added_assignment : Option (String Global) → ℕ → Option Ty → PlainRhs → List PlainAttribute → PlainStatement
added_assignment name n ty value attributes = assigned (record { name = chosen_name name n; ty = ty; value = value; attributes = attributes })

-- the new statements are the old ones with this one after them
abbrev pub Appends : List Statement → List Statement → PlainStatement → Type 0
Appends old new s = map view_statement new ≡ map view_statement old ++ s ∷ []

abbrev pub statements_of : Replacement → List Statement
statements_of (LhsRhs ss l r) = ss
statements_of (Cand ss c) = ss
