-- Definitions. The names of an item, as a parser keeps them.
use Rattle.std.specs.Prelude.{◌≡◌, ℕ, Bool, false, List, [], ◌∷◌, ◌++◌, length, Option, Some, None, bytes_eq, slice_get, if◌then◌else◌}
use Rattle.std.specs.Borrow.{Bor}
use Rattle.std.specs.BTreeMap.{BTreeMap, get_by}
use Rattle.std.specs.Cmp.Lexicographic.{slice_cmp}
use Rattle.std.specs.Ordering.{nat_cmp}
use Rattle.souper_graph.specs.Syntax.Optional.{◌>>=◌}
use Rattle.souper_ir.specs.declared.parse.names.Names.{Names}
use Rattle.souper_names.specs.TableView.{NameEntry, or_else, last_entry}
use Rattle.souper_graph.specs.Values.{PlainAssignment, PlainStatement, assigned}
use Rattle.souper_graph.specs.Syntax.Spelling.{Scope, predecessors_if_block, entry_of, position_of}

abbrev pub NameMap : Type 0
NameMap = BTreeMap (Bor (List ℕ)) NameEntry

-- the entry of a name
abbrev pub entry_in_map : NameMap → List ℕ → Option NameEntry
entry_in_map entries n = get_by (λ (k : Bor (List ℕ)). slice_cmp nat_cmp n k.now) entries

-- the entry of a name: the table is asked first
abbrev pub entry_in : Names → List ℕ → Option NameEntry
entry_in names n = or_else (last_entry names.table n) (entry_in_map names.entries n)

-- the name has this entry now, and the others have theirs
abbrev pub AddsToMap : NameMap → NameMap → List ℕ → NameEntry → Type 0
AddsToMap old new n e = (m : List ℕ) → entry_in_map new m ≡ (if bytes_eq n m then Some e else entry_in_map old m)

abbrev pub Adds : Names → Names → List ℕ → NameEntry → Type 0
Adds old new n e = (m : List ℕ) → entry_in new m ≡ (if bytes_eq n m then Some e else entry_in old m)

abbrev pub defines_name : Option PlainStatement → List ℕ → Bool
defines_name (Some (assigned a)) n = bytes_eq a.name n
defines_name _ n = false

-- whether the statement at the position is an assignment of the name
abbrev pub is_named : Scope → ℕ → List ℕ → Bool
is_named s i n = defines_name (slice_get s i) n

-- the entry in the map, if the statement at its position is an assignment of the name
abbrev pub entry_in_scope : Scope → Option NameEntry → List ℕ → Option NameEntry
entry_in_scope s o n = o >>= λ e. if is_named s e.0 n then Some e else None

-- the entry that a look-up finds
abbrev pub entry_found : Names → Scope → List ℕ → Option NameEntry
entry_found names s n = or_else (last_entry names.table n) (entry_in_scope s (entry_in_map names.entries n) n)

-- each name resolves to the position of its assignment, so that no two have one name
abbrev pub Named : Scope → Type 0
Named s = (p : ℕ) (a : PlainAssignment) → slice_get s p ≡ Some (assigned a) → position_of s a.name ≡ Some p

-- the name that was entered last has this entry
abbrev pub IsLast : Option (Bor (List ℕ) × ℕ × Option ℕ) → NameMap → Type 0
IsLast None entries = Unit {0}
IsLast (Some x) entries = entry_in_map entries x.0.now ≡ Some (x.1, x.2)

-- the names of a scope
pub record AreNames (names : Names) (s : Scope) : Type 0 where
  pub entries : (n : List ℕ) → entry_found names s n ≡ entry_of s n
  pub named : Named s
  pub last : IsLast names.last names.entries

-- the names, after one more definition
abbrev pub Defines : Names → Names → List ℕ → ℕ → Option ℕ → Type 0
Defines old new n v predecessors = (s : Scope) (a : PlainAssignment) → AreNames old s → position_of s a.name ≡ None → n ≡ a.name → v ≡ length s → predecessors ≡ predecessors_if_block a.value → AreNames new (s ++ assigned a ∷ [])
