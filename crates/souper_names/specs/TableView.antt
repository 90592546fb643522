-- Definitions. A table of names, and how its fields stand for them.
use Rattle.std.specs.Prelude.{◌≡◌, ℕ, suc, ◌≤◌, List, [], ◌∷◌, length, map, take, Option, Some, None, bytes_eq, slice_get, slice_index, if◌then◌else◌}
use Rattle.souper_names.specs.declared.table.Known.{Known}
use Rattle.souper_names.specs.declared.table.NameTable.TheInside.{Inside}
use Rattle.souper_names.specs.HashView.{name_hash, slot}

-- a position, and the number of predecessors of the block there
abbrev pub NameEntry : Type 0
NameEntry = ℕ × Option ℕ

abbrev pub or_else : Option NameEntry → Option NameEntry → Option NameEntry
or_else None o = o
or_else (Some e) o = Some e

-- the entry that was put last for the name
abbrev pub last_entry : List (List ℕ × NameEntry) → List ℕ → Option NameEntry
last_entry [] n = None
last_entry (x ∷ xs) n = or_else (last_entry xs n) (if bytes_eq x.0 n then Some x.1 else None)

abbrev pub plain : Known → List ℕ × NameEntry
plain k = (k.name.now, k.entry)

-- The last entry of the name is among the first `count` entries, and the last of these is in its slot. There are `slots` slots.
pub record Leads (slots : ℕ) (ks : List Known) (n : List ℕ) (count : ℕ) : Type 0 where
  pub within : count ≤ length ks
  pub entry : last_entry (map plain (take count ks)) n ≡ last_entry (map plain ks) n
  pub same : (i : ℕ) (k : Known) → count ≡ suc i → slice_get ks i ≡ Some k → slot (name_hash k.name.now) slots ≡ slot (name_hash n) slots

-- the head of a slot leads to each name in it, and so does `before` of an entry to each name before it
pub record IsTable (t : Inside) : Type 0 where
  pub heads : (n : List ℕ) → Leads (length t.heads) t.known.items n (slice_index t.heads (slot (name_hash n) (length t.heads)))
  pub before : (i : ℕ) (k : Known) → slice_get t.known.items i ≡ Some k → (n : List ℕ) → slot (name_hash n) (length t.heads) ≡ slot (name_hash k.name.now) (length t.heads) → Leads (length t.heads) (take i t.known.items) n k.before
