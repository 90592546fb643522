-- The entries of names in a scope, as it grows.
use Rattle.std.proofs.Common.{◌≡◌, ℕ, suc, ◌+◌, Bool, true, false, List, [], ◌∷◌, ◌++◌, length, Option, Some, None, refl, ap, subst, arith}
use Rattle.std.specs.Prelude.{bytes_eq, option_map, if◌then◌else◌}
use Rattle.souper_graph.specs.Values.{PlainAssignment, PlainStatement, assigned}
use Rattle.souper_graph.specs.Uses.{is_condition}
use Rattle.souper_graph.specs.Syntax.Spelling.{Scope, predecessors_if_block, entry_from}
use Rattle.souper_names.specs.TableView.{NameEntry, or_else}

found_or : (b : Bool) (k : NameEntry) (o p q : Option NameEntry) → or_else o p ≡ q → or_else (if b then Some k else o) p ≡ (if b then Some k else q)
found_or true k o p q e = refl
found_or false k o p q e = e

-- one further on
past : (k n : ℕ) → suc k + n ≡ k + suc n
past k n = omega arith

-- the entry of a name, after one more assignment
pub entry_push : (k : ℕ) (ss : Scope) (a : PlainAssignment) (n : List ℕ) → or_else (entry_from k ss n) (if bytes_eq a.name n then Some (k + length ss, predecessors_if_block a.value) else None) ≡ entry_from k (ss ++ assigned a ∷ []) n
entry_push k [] a n = ap (λ (i : ℕ). if bytes_eq a.name n then Some (i, predecessors_if_block a.value) else None) (let e : k + 0 ≡ k = omega arith in e)
entry_push k (assigned b ∷ ss) a n =
    found_or (bytes_eq b.name n) (k, predecessors_if_block b.value) (entry_from (suc k) ss n) (if bytes_eq a.name n then Some (k + suc (length ss), predecessors_if_block a.value) else None) (entry_from (suc k) (ss ++ assigned a ∷ []) n)
    (subst (λ (i : ℕ). or_else (entry_from (suc k) ss n) (if bytes_eq a.name n then Some (i, predecessors_if_block a.value) else None) ≡ entry_from (suc k) (ss ++ assigned a ∷ []) n) (past k (length ss)) (entry_push (suc k) ss a n))
entry_push k (x ∷ ss) a n =
    subst (λ (i : ℕ). or_else (entry_from (suc k) ss n) (if bytes_eq a.name n then Some (i, predecessors_if_block a.value) else None) ≡ entry_from (suc k) (ss ++ assigned a ∷ []) n) (past k (length ss)) (entry_push (suc k) ss a n)

-- a path condition has no name
pub entry_pass : (k : ℕ) (ss : Scope) (s : PlainStatement) (n : List ℕ) → is_condition s ≡ true → entry_from k ss n ≡ entry_from k (ss ++ s ∷ []) n
entry_pass k [] (assigned a) n h = absurd cc
entry_pass k [] _ n h = refl
entry_pass k (assigned b ∷ ss) s n h = ap (λ (o : Option NameEntry). if bytes_eq b.name n then Some (k, predecessors_if_block b.value) else o) (entry_pass (suc k) ss s n h)
entry_pass k (x ∷ ss) s n h = entry_pass (suc k) ss s n h

pub no_entry : (o : Option NameEntry) → option_map (λ (e : NameEntry). e.0) o ≡ None → o ≡ None
no_entry None h = refl
no_entry (Some e) h = absurd cc
