-- The names of a scope, as it grows.
use Rattle.std.proofs.Common.{◌≡◌, ℕ, zero, suc, ◌+◌, Bool, true, false, List, [], ◌∷◌, ◌++◌, length, Option, Some, None, Err, refl, sym, ◌∙◌, ap, subst, arith}
use Rattle.std.specs.Prelude.{bytes_eq, is_some, option_map, slice_get, if◌then◌else◌}
use Rattle.std.specs.Borrow.{Bor}
use Rattle.std.specs.BTreeMap.{UpdatesBy}
use Rattle.std.specs.Cmp.Lexicographic.{slice_cmp}
use Rattle.std.specs.Ordering.{nat_cmp}
use Rattle.std.proofs.lemmas.Slice.Eq.{bytes_eq-Decides}
use Rattle.std.proofs.lemmas.Map.Text.{btree_map_updates_str}
use Rattle.souper_graph.specs.Values.{PlainAssignment, PlainStatement, assigned}
use Rattle.souper_graph.specs.Uses.{is_condition}
use Rattle.souper_graph.specs.Syntax.Spelling.{Scope, predecessors_if_block, entry_of, position_of}
use Rattle.souper_ir.specs.declared.parse.parser.Failure.{Failure}
use Rattle.souper_ir.specs.FailureView.{cause_of_failure}
use Rattle.souper_ir.specs.NamesView.{NameMap, entry_in, entry_in_map, entry_found, AddsToMap, Adds, IsLast, AreNames, Named, defines_name, is_named, entry_in_scope}
use Rattle.souper_ir.specs.declared.parse.names.Names.{Names}
use Rattle.souper_names.specs.TableView.{NameEntry, or_else, last_entry}
use Rattle.souper_ir.specs.NodeReadings.{new_name_at}
use Rattle.souper_ir.specs.Parsing.{Parsing}
use Rattle.souper_ir.specs.Reading.{IsRead}
use Rattle.souper_ir.proofs.Scope.Names.{no_entry, entry_push, entry_pass}
use Rattle.souper_ir.proofs.Scope.Growing.{entry_stands, named_push, named_pass}
use Rattle.souper_names.proofs.Tables.{adds}

pub inserted : (old new : NameMap) (key : Bor (List ℕ)) (e : NameEntry)
    → UpdatesBy (λ (x y : Bor (List ℕ)). slice_cmp nat_cmp x.now y.now) (λ (k : Bor (List ℕ)). slice_cmp nat_cmp key.now k.now) old new (Some e) → AddsToMap old new key.now e
inserted old new key e up m = btree_map_updates_str key.now old new (Some e) up m

has_itself : (n : List ℕ) → bytes_eq n n ≡ true
has_itself n = (bytes_eq-Decides n n).1 refl

-- ---- whether the statement at a position defines a name

-- what is_named tests
abbrev Stands : Scope → ℕ → List ℕ → Type 0
Stands s i n = (a : PlainAssignment) × (slice_get s i ≡ Some (assigned a)) × (a.name ≡ n)

stands : (s : Scope) (i : ℕ) (n : List ℕ) → is_named s i n ≡ true → Stands s i n
stands s i n h = by_statement (slice_get s i) refl h
  where
    by_statement : (o : Option PlainStatement) → slice_get s i ≡ o → defines_name o n ≡ true → Stands s i n
    by_statement (Some (assigned a)) e d = (a, e, (bytes_eq-Decides a.name n).0 d)
    by_statement _ e d = absurd cc

-- the position of a name, if the statement there defines it
pub position_is : (s : Scope) (i : ℕ) (n : List ℕ) → Named s → is_named s i n ≡ true → Some i ≡ position_of s n
position_is s i n named h =
    let r = stands s i n h in
    subst (λ (m : List ℕ). Some i ≡ position_of s m) r.2 (sym (named i r.0 r.1))

-- the statement at the entry of a name defines it
entry_named : (s : Scope) (n : List ℕ) (e : NameEntry) → entry_of s n ≡ Some e → is_named s e.0 n ≡ true
entry_named s n e h =
    let r = entry_stands s n e.0 e.1 h in
    subst (λ (m : List ℕ). is_named s e.0 m ≡ true) r.3 (rw r.1 (has_itself r.0.name))

named_here : (s : Scope) (a : PlainAssignment) → is_named (s ++ assigned a ∷ []) (length s) a.name ≡ true
named_here [] a = has_itself a.name
named_here (x ∷ s) a = named_here s a

none_at_end : (s : Scope) (n : List ℕ) → is_named s (length s) n ≡ false
none_at_end [] n = refl
none_at_end (x ∷ s) n = none_at_end s n

named_as_before : (s : Scope) (x : PlainStatement) (i : ℕ) (n : List ℕ) → defines_name (Some x) n ≡ false → is_named (s ++ x ∷ []) i n ≡ is_named s i n
named_as_before [] x zero n h = h
named_as_before (y ∷ s) x (suc i) n h = named_as_before s x i n h
named_as_before _ x _ n h = refl

in_scope_as_before : (s : Scope) (x : PlainStatement) (o : Option NameEntry) (n : List ℕ) → defines_name (Some x) n ≡ false → entry_in_scope (s ++ x ∷ []) o n ≡ entry_in_scope s o n
in_scope_as_before s x None n h = refl
in_scope_as_before s x (Some e) n h = ap (λ (b : Bool). if b then Some e else None) (named_as_before s x e.0 n h)

found_as_before : (names : Names) (s : Scope) (x : PlainStatement) (n : List ℕ) → defines_name (Some x) n ≡ false → entry_found names (s ++ x ∷ []) n ≡ entry_found names s n
found_as_before names s x n h = ap (λ (o : Option NameEntry). or_else (last_entry names.table n) o) (in_scope_as_before s x (entry_in_map names.entries n) n h)

-- ---- whether a name is new

pub found_in_table : (names : Names) (s : Scope) (n : List ℕ) (e : NameEntry) → AreNames names s → Some e ≡ last_entry names.table n → Some e ≡ entry_of s n
found_in_table names s n e are is = ap (λ (o : Option NameEntry). or_else o (entry_in_scope s (entry_in_map names.entries n) n)) is ∙ are.entries n

pub found_in_map : (names : Names) (s : Scope) (n : List ℕ) → AreNames names s → None ≡ last_entry names.table n → entry_in_scope s (entry_in_map names.entries n) n ≡ entry_of s n
found_in_map names s n are is = ap (λ (o : Option NameEntry). or_else o (entry_in_scope s (entry_in_map names.entries n) n)) is ∙ are.entries n

-- the entry in the table or the map, if the statement at its position defines the name
pub entry_is : (names : Names) (s : Scope) (n : List ℕ) → AreNames names s → entry_in_scope s (entry_in names n) n ≡ entry_of s n
entry_is names s n are = by_entry (last_entry names.table n) refl (are.entries n)
  where
    by_entry : (o : Option NameEntry) → last_entry names.table n ≡ o → or_else o (entry_in_scope s (entry_in_map names.entries n) n) ≡ entry_of s n
        → entry_in_scope s (or_else o (entry_in_map names.entries n)) n ≡ entry_of s n
    by_entry None e h = h
    by_entry (Some x) e h = ap (λ (b : Bool). if b then Some x else None) (entry_named s n x (sym h)) ∙ h

no_position : (o : Option NameEntry) → is_some o ≡ false → option_map (λ (e : NameEntry). e.0) o ≡ None
no_position None h = refl
no_position (Some e) h = absurd cc

a_position : (o : Option NameEntry) → is_some o ≡ true → (i : ℕ) × (option_map (λ (e : NameEntry). e.0) o ≡ Some i)
a_position None h = absurd cc
a_position (Some e) h = (e.0, refl)

pub is_new : (names : Names) (s : Scope) (n : List ℕ) (o : Option NameEntry) → AreNames names s → entry_in names n ≡ o → is_some (entry_in_scope s o n) ≡ false → position_of s n ≡ None
is_new names s n o are is h = no_position (entry_of s n) (rw (sym (entry_is names s n are), is) h)

pub is_old : (names : Names) (s : Scope) (n : List ℕ) (o : Option NameEntry) → AreNames names s → entry_in names n ≡ o → is_some (entry_in_scope s o n) ≡ true → (i : ℕ) × (position_of s n ≡ Some i)
is_old names s n o are is h = a_position (entry_of s n) (rw (sym (entry_is names s n are), is) h)

-- the same, by the table alone
pub is_old_in_table : (names : Names) (s : Scope) (n : List ℕ) (o : Option NameEntry) → AreNames names s → o ≡ last_entry names.table n → is_some o ≡ true → (i : ℕ) × (position_of s n ≡ Some i)
is_old_in_table names s n None are is h = absurd cc
is_old_in_table names s n (Some e) are is h = (e.0, ap (λ (o : Option NameEntry). option_map (λ (x : NameEntry). x.0) o) (sym (found_in_table names s n e are is)))

pub is_new_in_table : (names : Names) (s : Scope) (n : List ℕ) (o : Option NameEntry) → AreNames names s → names.entries.entries ≡ [] → o ≡ last_entry names.table n → is_some o ≡ false → position_of s n ≡ None
is_new_in_table names s n (Some e) are empty is h = absurd cc
is_new_in_table names s n None are empty is h =
    ap (λ (o : Option NameEntry). option_map (λ (x : NameEntry). x.0) o) (sym (found_in_map names s n are is)
    ∙ ap (λ (o : Option NameEntry). entry_in_scope s o n) (let none : entry_in_map names.entries n ≡ None = rw empty refl in none))

pub begun : (n : List ℕ) (p q : Parsing) → p ≡ q → q.failed ≡ None → position_of p.scope n ≡ None → IsRead (new_name_at n q) tt q p
unfolding new_name_at
begun n p q is live h =
    let here : p.failed ≡ None = subst (λ (x : Parsing). x.failed ≡ None) (sym is) live in
    subst (λ (x : Parsing). IsRead (new_name_at n x) tt x p) is (rw h refl, here, here, refl)

pub not_begun : (n : List ℕ) (p : Parsing) (i : ℕ) (ended : Bool) → position_of p.scope n ≡ Some i → ended ≡ false → new_name_at n p ≡ Err ended
unfolding new_name_at
not_begun n p i ended h e = rw (h, e) refl

-- ---- one more statement

or_none : (o : Option NameEntry) → or_else o None ≡ o
or_none None = refl
or_none (Some e) = refl

left_none : (o p : Option NameEntry) → or_else o p ≡ None → o ≡ None
left_none None p h = refl
left_none (Some e) p h = absurd cc

abbrev entry_at_end : Scope → PlainAssignment → NameEntry
entry_at_end s a = (length s, predecessors_if_block a.value)

-- what is found after one more definition, of a new name
abbrev FoundAfter : Names → Names → Scope → PlainAssignment → Type 0
FoundAfter old new s a = (n : List ℕ) → entry_found new (s ++ assigned a ∷ []) n ≡ (if bytes_eq a.name n then Some (entry_at_end s a) else entry_found old s n)

names_push : (old new : Names) (s : Scope) (a : PlainAssignment) → AreNames old s → position_of s a.name ≡ None → FoundAfter old new s a → IsLast new.last new.entries → AreNames new (s ++ assigned a ∷ [])
names_push old new s a are fresh found last = record {
  entries = λ n. found n ∙ by_name n (bytes_eq a.name n) refl ∙ entry_push 0 s a n;
  named = named_push s a are.named fresh;
  last = last;
}
  where
    by_name : (n : List ℕ) (b : Bool) → bytes_eq a.name n ≡ b → (if b then Some (entry_at_end s a) else entry_found old s n) ≡ or_else (entry_of s n) (if b then Some (0 + length s, predecessors_if_block a.value) else None)
    by_name n true is =
        let none : entry_of s n ≡ None = subst (λ (m : List ℕ). entry_of s m ≡ None) ((bytes_eq-Decides a.name n).0 is) (no_entry (entry_of s a.name) fresh) in
        let same : 0 + length s ≡ length s = omega arith in
        rw (none, same) refl
    by_name n false other = are.entries n ∙ sym (or_none (entry_of s n))

-- the new name is put into the table
pub define_in_table : (old new : Names) (s : Scope) (a : PlainAssignment) → AreNames old s → position_of s a.name ≡ None
    → new.table ≡ old.table ++ (a.name, entry_at_end s a) ∷ [] → new.entries ≡ old.entries → new.last ≡ old.last → AreNames new (s ++ assigned a ∷ [])
define_in_table old new s a are fresh table entries last = names_push old new s a are fresh
    (λ n. rw (table, entries) (adds old.table (a.name, entry_at_end s a) (entry_in_scope (s ++ assigned a ∷ []) (entry_in_map old.entries n) n) n ∙ by_name n (bytes_eq a.name n) refl))
    (rw (last, entries) are.last)
  where
    by_name : (n : List ℕ) (b : Bool) → bytes_eq a.name n ≡ b → (if b then Some (entry_at_end s a) else entry_found old (s ++ assigned a ∷ []) n) ≡ (if b then Some (entry_at_end s a) else entry_found old s n)
    by_name n true is = refl
    by_name n false other = found_as_before old s (assigned a) n other

end_in_scope : (s : Scope) (a : PlainAssignment) (n : List ℕ) → bytes_eq a.name n ≡ true → entry_in_scope (s ++ assigned a ∷ []) (Some (entry_at_end s a)) n ≡ Some (entry_at_end s a)
end_in_scope s a n is = subst (λ (m : List ℕ). entry_in_scope (s ++ assigned a ∷ []) (Some (entry_at_end s a)) m ≡ Some (entry_at_end s a)) ((bytes_eq-Decides a.name n).0 is) (rw (named_here s a) refl)

-- it is in the map, with the position of the statement
pub define_as_entered : (names : Names) (s : Scope) (a : PlainAssignment) → AreNames names s → position_of s a.name ≡ None
    → entry_in_map names.entries a.name ≡ Some (entry_at_end s a) → AreNames names (s ++ assigned a ∷ [])
define_as_entered names s a are fresh entered = names_push names names s a are fresh (λ n. by_name n (bytes_eq a.name n) refl) are.last
  where
    not_in_table : last_entry names.table a.name ≡ None
    not_in_table = left_none (last_entry names.table a.name) (entry_in_scope s (entry_in_map names.entries a.name) a.name) (are.entries a.name ∙ no_entry (entry_of s a.name) fresh)

    by_name : (n : List ℕ) (b : Bool) → bytes_eq a.name n ≡ b → entry_found names (s ++ assigned a ∷ []) n ≡ (if b then Some (entry_at_end s a) else entry_found names s n)
    by_name n true is = subst (λ (m : List ℕ). entry_found names (s ++ assigned a ∷ []) m ≡ Some (entry_at_end s a)) ((bytes_eq-Decides a.name n).0 is) (rw (not_in_table, entered) (end_in_scope s a a.name (has_itself a.name)))
    by_name n false other = found_as_before names s (assigned a) n other

-- all names are in the map then
found_there : (names : Names) (s : Scope) (n : List ℕ) → names.table ≡ [] → entry_found names s n ≡ entry_in_scope s (entry_in names n) n
found_there names s n empty = rw empty refl

-- it is put into the map
pub define_in_map : (old new : Names) (s : Scope) (a : PlainAssignment) → AreNames old s → position_of s a.name ≡ None
    → new.table ≡ [] → Adds old new a.name (entry_at_end s a) → IsLast new.last new.entries → AreNames new (s ++ assigned a ∷ [])
define_in_map old new s a are fresh empty added last = names_push old new s a are fresh
    (λ n. found_there new (s ++ assigned a ∷ []) n empty ∙ ap (λ (o : Option NameEntry). entry_in_scope (s ++ assigned a ∷ []) o n) (added n) ∙ by_name n (bytes_eq a.name n) refl) last
  where
    by_name : (n : List ℕ) (b : Bool) → bytes_eq a.name n ≡ b → entry_in_scope (s ++ assigned a ∷ []) (if b then Some (entry_at_end s a) else entry_in old n) n ≡ (if b then Some (entry_at_end s a) else entry_found old s n)
    by_name n true is = end_in_scope s a n is
    by_name n false other = in_scope_as_before s (assigned a) (entry_in old n) n other ∙ entry_is old s n are ∙ sym (are.entries n)

-- a new name is put into the map before its statement is added
pub begin_in_map : (old new : Names) (s : Scope) (n : List ℕ) → AreNames old s → position_of s n ≡ None
    → new.table ≡ [] → Adds old new n (length s, None) → IsLast new.last new.entries → AreNames new s
begin_in_map old new s n are fresh empty added last = record {
  entries = λ m. found_there new s m empty ∙ ap (λ (o : Option NameEntry). entry_in_scope s o m) (added m) ∙ by_name m (bytes_eq n m) refl;
  named = are.named;
  last = last;
}
  where
    by_name : (m : List ℕ) (b : Bool) → bytes_eq n m ≡ b → entry_in_scope s (if b then Some (length s, None) else entry_in old m) m ≡ entry_of s m
    by_name m true is =
        let none : entry_of s m ≡ None = subst (λ (k : List ℕ). entry_of s k ≡ None) ((bytes_eq-Decides n m).0 is) (no_entry (entry_of s n) fresh) in
        ap (λ (c : Bool). if c then Some (length s, None) else None) (none_at_end s m) ∙ sym none
    by_name m false other = entry_is old s m are

-- one more path condition
names_none : (x : PlainStatement) (n : List ℕ) → is_condition x ≡ true → defines_name (Some x) n ≡ false
names_none (assigned a) n c = absurd cc
names_none _ n c = refl

pub names_pass : (names : Names) (s : Scope) (x : PlainStatement) → AreNames names s → is_condition x ≡ true → AreNames names (s ++ x ∷ [])
names_pass names s x are c = record {
  entries = λ n. found_as_before names s x n (names_none x n c) ∙ are.entries n ∙ entry_pass 0 s x n c;
  named = named_pass s x are.named c;
  last = are.last;
}

pub live_inside : (o : Option Failure) → option_map cause_of_failure o ≡ None → o ≡ None
live_inside None h = refl
live_inside (Some f) h = absurd cc
