-- The statement where a scope has a name, and the facts that still hold as the scope grows.
use Rattle.std.proofs.Common.{◌≡◌, ◌⊎◌, ℕ, zero, suc, ◌+◌, ◌<◌, Bool, true, false, List, [], ◌∷◌, ◌++◌, length, Option, Some, None, refl, sym, ◌∙◌, ap, subst, inl, inr, arith}
use Rattle.std.specs.Prelude.{bytes_eq, option_map, slice_get, if◌then◌else◌}
use Rattle.std.proofs.lemmas.Slice.Eq.{bytes_eq-Decides}
use Rattle.souper_graph.specs.Values.{PlainRhs, block, phi, PlainAssignment, PlainStatement, assigned, condition, block_condition}
use Rattle.souper_graph.specs.Uses.{Has, Use, value_use, block_use, position_of as position_used, is_condition, uses_of_rhs, uses_of}
use Rattle.souper_graph.specs.WellFormed.{predecessors_of_rhs, predecessors_of, AgreesRhs, AgreesWithBlock, Closed, IsAssigned, IsBlockRhs, IsBlock, IsMet, AreMet}
use Rattle.souper_graph.specs.Syntax.Spelling.{Scope, predecessors_if_block, entry_from, entry_of, position_of}
use Rattle.souper_ir.specs.Laws.Peeks.{some_is}
use Rattle.souper_names.specs.TableView.{NameEntry, or_else}
use Rattle.souper_ir.specs.NamesView.{Named}
use Rattle.souper_names.proofs.Tables.{get_push}
use Rattle.souper_ir.proofs.Scope.Names.{entry_push, entry_pass, no_entry}

-- ---- names

-- the statement at a position is the assignment of the name, of a block with this number of predecessors, or of no block
abbrev pub StandsWith : Scope → List ℕ → ℕ → Option ℕ → Type 0
StandsWith s n i predecessors = (a : PlainAssignment) × (slice_get s i ≡ Some (assigned a)) × (predecessors_if_block a.value ≡ predecessors) × (a.name ≡ n)

abbrev FoundFrom : ℕ → Scope → List ℕ → ℕ × Option ℕ → Type 0
FoundFrom k s n e = (j : ℕ) × (e.0 ≡ k + j) × StandsWith s n j e.1

later : (k : ℕ) (x : PlainStatement) (s : Scope) (n : List ℕ) (e : ℕ × Option ℕ) → FoundFrom (suc k) s n e → FoundFrom k (x ∷ s) n e
later k x s n e r = (suc r.0, (let l = r.1 in omega arith), r.2)

found_if : (b : Bool) (k : ℕ) (a : PlainAssignment) (s : Scope) (n : List ℕ) (more : Option (ℕ × Option ℕ)) (e : ℕ × Option ℕ) → bytes_eq a.name n ≡ b → (more ≡ Some e → FoundFrom (suc k) s n e)
    → (if b then Some (k, predecessors_if_block a.value) else more) ≡ Some e → FoundFrom k (assigned a ∷ s) n e
found_if true k a s n more e named behind h =
    let same : ◌≡◌ {A = ℕ × Option ℕ} (k, predecessors_if_block a.value) e = some_is h in
    let place : k ≡ e.0 = ap (λ (x : ℕ × Option ℕ). x.0) same in
    (0, (omega arith), (a, refl, ap (λ (x : ℕ × Option ℕ). x.1) same, (bytes_eq-Decides a.name n).0 named))
found_if false k a s n more e named behind h = later k (assigned a) s n e (behind h)

found_from : (k : ℕ) (s : Scope) (n : List ℕ) (e : ℕ × Option ℕ) → entry_from k s n ≡ Some e → FoundFrom k s n e
found_from k [] n e h = absurd cc
found_from k (assigned a ∷ s) n e h = found_if (bytes_eq a.name n) k a s n (entry_from (suc k) s n) e refl (found_from (suc k) s n e) h
found_from k (x ∷ s) n e h = later k x s n e (found_from (suc k) s n e h)

-- the statement at the entry of a name
pub entry_stands : (s : Scope) (n : List ℕ) (i : ℕ) (predecessors : Option ℕ) → entry_of s n ≡ Some (i, predecessors) → StandsWith s n i predecessors
entry_stands s n i predecessors h =
    let r = found_from 0 s n (i, predecessors) h in
    let same : r.0 ≡ i = (let l = r.1 in omega arith) in
    subst (λ (x : ℕ). StandsWith s n x predecessors) same r.2

entry_at : (o : Option (ℕ × Option ℕ)) (i : ℕ) → option_map (λ (e : ℕ × Option ℕ). e.0) o ≡ Some i → (predecessors : Option ℕ) × (o ≡ Some (i, predecessors))
entry_at None i h = absurd cc
entry_at (Some e) i h = (e.1, ap (λ (x : ℕ). Some (x, e.1)) (let same : e.0 ≡ i = some_is h in same))

position_stands : (s : Scope) (n : List ℕ) (i : ℕ) → position_of s n ≡ Some i → (predecessors : Option ℕ) × StandsWith s n i predecessors
position_stands s n i h =
    let e = entry_at (entry_of s n) i h in
    (e.0, entry_stands s n i e.0 e.1)

pub nothing_named : Named []
nothing_named p v e = absurd cc

or_some : (o : Option NameEntry) (e : NameEntry) (d : Option NameEntry) → o ≡ Some e → or_else o d ≡ Some e
or_some o e d h = rw h refl

pub named_push : (ss : Scope) (a : PlainAssignment) → Named ss → position_of ss a.name ≡ None → Named (ss ++ assigned a ∷ [])
named_push ss a named fresh p v e = by_place (get_push ss (assigned a) (assigned v) p e)
  where
    by_place : (slice_get ss p ≡ Some (assigned v)) ⊎ ((p ≡ length ss) × (assigned a ≡ assigned v)) → position_of (ss ++ assigned a ∷ []) v.name ≡ Some p
    by_place (inl h) =
        let found = entry_at (entry_of ss v.name) p (named p v h) in
        let still : entry_of (ss ++ assigned a ∷ []) v.name ≡ Some (p, found.0) = sym (entry_push 0 ss a v.name) ∙ or_some (entry_of ss v.name) (p, found.0) (if bytes_eq a.name v.name then Some (0 + length ss, predecessors_if_block a.value) else None) found.1 in
        ap (λ (o : Option (ℕ × Option ℕ)). option_map (λ (e : ℕ × Option ℕ). e.0) o) still
    by_place (inr h) =
        let same : a.name ≡ v.name = (let e2 : a ≡ v = cc in ap (λ (x : PlainAssignment). x.name) e2) in
        let place : 0 + length ss ≡ p = (let l = h.0 in omega arith) in
        let now : entry_of (ss ++ assigned a ∷ []) a.name ≡ Some (0 + length ss, predecessors_if_block a.value) =
        sym (entry_push 0 ss a a.name) ∙ rw (no_entry (entry_of ss a.name) fresh, (bytes_eq-Decides a.name a.name).1 refl) refl in
        subst (λ (x : List ℕ). position_of (ss ++ assigned a ∷ []) x ≡ Some p) same
        (ap (λ (o : Option (ℕ × Option ℕ)). option_map (λ (e : ℕ × Option ℕ). e.0) o) now ∙ ap Some place)

pub named_pass : (ss : Scope) (s : PlainStatement) → Named ss → is_condition s ≡ true → Named (ss ++ s ∷ [])
named_pass ss s named c p v e = by_place (get_push ss s (assigned v) p e)
  where
    by_place : (slice_get ss p ≡ Some (assigned v)) ⊎ ((p ≡ length ss) × (s ≡ assigned v)) → position_of (ss ++ s ∷ []) v.name ≡ Some p
    by_place (inl h) = ap (λ (o : Option (ℕ × Option ℕ)). option_map (λ (e : ℕ × Option ℕ). e.0) o) (sym (entry_pass 0 ss s v.name c)) ∙ named p v h
    by_place (inr h) = absurd (let no : true ≡ false = sym c ∙ ap is_condition h.1 in cc)

-- ---- the statements of a scope

get_in : (s : Scope) (i : ℕ) (x : PlainStatement) → slice_get s i ≡ Some x → i < length s
get_in [] i x e = absurd cc
get_in (y ∷ s) zero x e = omega arith
get_in (y ∷ s) (suc i) x e = let more = get_in s i x e in omega arith

-- the use is in the scope, and resolves there
abbrev pub Reaches : Scope → Use → Type 0
Reaches s u = (position_used u < length s) × IsMet s u

abbrev pub AllReach : Scope → List Use → Type 0
AllReach s us = (u : Use) → Has us u → Reaches s u

pub none_reach : (s : Scope) → AllReach s []
none_reach s u h = absurd h

pub both_reach : (s : Scope) (us vs : List Use) → AllReach s us → AllReach s vs → AllReach s (us ++ vs)
both_reach s [] vs f g u h = g u h
both_reach s (x ∷ us) vs f g u (inl e) = f u (inl e)
both_reach s (x ∷ us) vs f g u (inr h) = both_reach s us vs (λ w k. f w (inr k)) g u h

pub one_reaches : (s : Scope) (x : Use) (us : List Use) → Reaches s x → AllReach s us → AllReach s (x ∷ us)
one_reaches s x us r f u (inl e) = subst (Reaches s) e r
one_reaches s x us r f u (inr h) = f u h

pub value_reaches : (s : Scope) (n : List ℕ) (i : ℕ) → position_of s n ≡ Some i → Reaches s (value_use i)
value_reaches s n i e =
    let r = position_stands s n i e in
    (get_in s i (assigned r.1.0) r.1.1, subst IsAssigned (sym r.1.1) tt)

predecessors_are : (v : PlainRhs) (n : ℕ) → predecessors_if_block v ≡ Some n → IsBlockRhs v × (n ≡ predecessors_of_rhs v)
predecessors_are (block b) n e = (tt, cc)
predecessors_are _ n e = absurd cc

-- the block of a name, and its number of predecessors
pub block_reaches : (s : Scope) (n : List ℕ) (i predecessors : ℕ) → entry_of s n ≡ Some (i, Some predecessors) → Reaches s (block_use i) × (predecessors ≡ predecessors_of (slice_get s i))
block_reaches s n i predecessors e =
    let r = entry_stands s n i (Some predecessors) e in
    let k = predecessors_are r.0.value predecessors r.2 in
    ((get_in s i (assigned r.0) r.1, subst IsBlock (sym r.1) k.0), k.1 ∙ ap predecessors_of (sym r.1))

-- ---- as the scope grows

kept : (P : Option PlainStatement → Type 0) → (P None → ⊥) → (s more : Scope) (i : ℕ) → P (slice_get s i) → P (slice_get (s ++ more) i)
kept P none [] more i h = absurd (none h)
kept P none (x ∷ s) more zero h = h
kept P none (x ∷ s) more (suc i) h = kept P none s more i h

pub met_kept : (s more : Scope) (u : Use) → IsMet s u → IsMet (s ++ more) u
met_kept s more (value_use i) h = kept IsAssigned (λ x. x) s more i h
met_kept s more (block_use i) h = kept IsBlock (λ x. x) s more i h

agrees_kept : (s more : Scope) (v : PlainStatement) → AreMet s (uses_of v) → AgreesWithBlock s v → AgreesWithBlock (s ++ more) v
agrees_kept s more (assigned a) met h = by_value a.value met h
  where
    by_value : (v : PlainRhs) → AreMet s (uses_of_rhs v) → AgreesRhs s v → AgreesRhs (s ++ more) v
    by_value (phi p) met h = (kept (λ o. IsBlock o × (length p.values ≡ predecessors_of o)) (λ x. x.0) s more p.block (met (block_use p.block) (inl refl), h)).1
    by_value _ met h = tt
agrees_kept s more (condition p) met h = tt
agrees_kept s more (block_condition p) met h = (kept (λ o. IsBlock o × (p.predecessor < predecessors_of o)) (λ x. x.0) s more p.block (met (block_use p.block) (inl refl), h)).1

pub closed_kept : (s more : Scope) (p : ℕ) (v : PlainStatement) → Closed s p v → Closed (s ++ more) p v
closed_kept s more p v c = record {
  fits = c.fits;
  below = c.below;
  met = λ u h. met_kept s more u (c.met u h);
  agrees = agrees_kept s more v c.met c.agrees;
}
