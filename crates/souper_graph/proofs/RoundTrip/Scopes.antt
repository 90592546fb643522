-- Lemmas. In an item whose statements are all closed and named apart, each statement can be written in the scope of
-- those before it.
use Rattle.std.proofs.Common.{◌≡◌, ℕ, zero, suc, ◌+◌, ◌<◌, ◌≤◌, Bool, true, false, List, [], ◌∷◌, ◌++◌, length, Option, Some, None, refl, sym, ap, ◌∙◌, subst, arith, append_assoc}
use Rattle.std.specs.Prelude.{bytes_eq, option_map, slice_get}
use Rattle.std.proofs.lemmas.Option.{slice_get_within}
use Rattle.std.proofs.lemmas.Slice.Eq.{bytes_eq-Decides}
use Rattle.souper_graph.specs.Values.{PlainRhs, var, block, phi, reserved_inst, reserved_const, instruction, PlainAssignment, PlainStatement, assigned, condition, block_condition, Item}
use Rattle.souper_graph.specs.Names.{IsName}
use Rattle.souper_graph.specs.Uses.{Use, value_use, block_use, position_of as use_position}
use Rattle.souper_graph.specs.Text.{name_of, name_at}
use Rattle.souper_graph.specs.WellFormed.{predecessors_of_rhs, predecessors_of, predecessors_at, IsAssigned, IsBlockRhs, IsBlock, IsMet}
use Rattle.souper_graph.specs.Unneeded.{EachClosed}
use Rattle.souper_graph.specs.Syntax.Spelling.{Scope, predecessors_if_block, entry_from, entry_of, position_of}
use Rattle.souper_graph.proofs.RoundTrip.Ready.{Known, IsFresh, AreReady}

-- ---- look-up by name

different : (m n : List ℕ) → (m ≡ n → ⊥) → bytes_eq m n ≡ false
different m n h = under (bytes_eq m n) (λ e. h ((bytes_eq-Decides m n).0 e))
  where
    under : (b : Bool) → (b ≡ true → ⊥) → b ≡ false
    under true k = absurd (k refl)
    under false k = refl

same_name : (m n : List ℕ) → m ≡ n → bytes_eq m n ≡ true
same_name m n e = (bytes_eq-Decides m n).1 e

-- no assignment of the scope has the name
abbrev LacksName : Scope → List ℕ → Type 0
LacksName ss n = (j : ℕ) (b : PlainAssignment) → slice_get ss j ≡ Some (assigned b) → b.name ≡ n → ⊥

entry_none : (k : ℕ) (ss : Scope) (n : List ℕ) → LacksName ss n → entry_from k ss n ≡ None
entry_none k [] n h = refl
entry_none k (assigned a ∷ ss) n h = rw (different a.name n (λ e. h 0 a refl e)) (entry_none (suc k) ss n (λ j b q e. h (suc j) b q e))
entry_none k (condition p ∷ ss) n h = entry_none (suc k) ss n (λ j b q e. h (suc j) b q e)
entry_none k (block_condition p ∷ ss) n h = entry_none (suc k) ss n (λ j b q e. h (suc j) b q e)

some_entry : (k m : ℕ) (w v : Option ℕ) → k ≡ m → w ≡ v → ◌≡◌ {A = Option (ℕ × Option ℕ)} (Some (k, w)) (Some (m, v))
some_entry k m w v e f = (λ i. Some (e i, f i))

-- the first assignment of a name is found at its position
entry_found : (k m : ℕ) (ss : Scope) (i : ℕ) (a : PlainAssignment) → m ≡ k + i → slice_get ss i ≡ Some (assigned a)
    → ((j : ℕ) (b : PlainAssignment) → j < i → slice_get ss j ≡ Some (assigned b) → b.name ≡ a.name → ⊥) → entry_from k ss a.name ≡ Some (m, predecessors_if_block a.value)
entry_found k m [] i a e q h = absurd cc
entry_found k m (assigned b ∷ ss) zero a e q h =
    let same : assigned b ≡ assigned a = cc in
    let one : b ≡ a = cc in
    rw (same_name b.name a.name (ap (λ (x : PlainAssignment). x.name) one)) (some_entry k m (predecessors_if_block b.value) (predecessors_if_block a.value) (omega arith) (ap (λ (x : PlainAssignment). predecessors_if_block x.value) one))
entry_found k m (condition p ∷ ss) zero a e q h = absurd cc
entry_found k m (block_condition p ∷ ss) zero a e q h = absurd cc
entry_found k m (assigned b ∷ ss) (suc i) a e q h =
    rw (different b.name a.name (h 0 b (omega arith) refl)) (entry_found (suc k) m ss i a (omega arith) q (λ j c l. h (suc j) c (omega arith)))
entry_found k m (condition p ∷ ss) (suc i) a e q h = entry_found (suc k) m ss i a (omega arith) q (λ j c l. h (suc j) c (omega arith))
entry_found k m (block_condition p ∷ ss) (suc i) a e q h = entry_found (suc k) m ss i a (omega arith) q (λ j c l. h (suc j) c (omega arith))

-- ---- lists in two parts

get_left : {A : Type 0} (xs ys : List A) (i : ℕ) → i < length xs → slice_get (xs ++ ys) i ≡ slice_get xs i
get_left [] ys i l = absurd (omega arith)
get_left (x ∷ xs) ys zero l = refl
get_left (x ∷ xs) ys (suc i) l = get_left xs ys i (omega arith)

pub get_middle : {A : Type 0} (xs ys : List A) (y : A) → slice_get (xs ++ y ∷ ys) (length xs) ≡ Some y
get_middle [] ys y = refl
get_middle (x ∷ xs) ys y = get_middle xs ys y

-- ---- facts about a scope

block_predecessors : (r : PlainRhs) → IsBlockRhs r → predecessors_if_block r ≡ Some (predecessors_of_rhs r)
block_predecessors var h = absurd h
block_predecessors (block b) h = refl
block_predecessors (phi p) h = absurd h
block_predecessors reserved_inst h = absurd h
block_predecessors reserved_const h = absurd h
block_predecessors (instruction i) h = absurd h

assigned_there : (o : Option PlainStatement) → IsAssigned o → (a : PlainAssignment) × (o ≡ Some (assigned a))
assigned_there None h = absurd h
assigned_there (Some (assigned a)) h = (a, refl)
assigned_there (Some (condition p)) h = absurd h
assigned_there (Some (block_condition p)) h = absurd h

block_there : (o : Option PlainStatement) → IsBlock o → (a : PlainAssignment) × (o ≡ Some (assigned a)) × IsBlockRhs a.value
block_there None h = absurd h
block_there (Some (assigned a)) h = (a, refl, h)
block_there (Some (condition p)) h = absurd h
block_there (Some (block_condition p)) h = absurd h

module _ (a : Item) (ec : EachClosed a) (s rest : List PlainStatement) (whole : a.statements ≡ s ++ rest) where
  -- at each position of the scope the item has the same statement
  in_scope : (i : ℕ) → i < length s → slice_get a.statements i ≡ slice_get s i
  in_scope i l = ap (λ (x : List PlainStatement). slice_get x i) whole ∙ get_left s rest i l

  found : (i : ℕ) (v : PlainAssignment) → i < length s → slice_get a.statements i ≡ Some (assigned v) → entry_of s v.name ≡ Some (i, predecessors_if_block v.value)
  found i v l e =
      entry_found 0 i s i v (omega arith) (sym (in_scope i l) ∙ e) (λ j b below q same.
      let apart : j ≡ i = ec.named_apart j i b v (in_scope j (omega arith) ∙ q) e same in absurd (omega arith))

  named : (i : ℕ) (v : PlainAssignment) → slice_get a.statements i ≡ Some (assigned v) → IsName (name_at a.statements i) × (name_at a.statements i ≡ v.name)
  named i v e =
      let is : name_at a.statements i ≡ v.name = ap name_of e in
      (subst IsName (sym is) (ec.closed i (assigned v) e).fits.name_fits, is)

  pub known : (u : Use) → use_position u < length s → IsMet a.statements u → Known s a.statements u
  known (value_use i) l h =
      let v = assigned_there (slice_get a.statements i) h in
      let n = named i v.0 v.1 in
      (n.0, ap (position_of s) n.1 ∙ ap (λ (o : Option (ℕ × Option ℕ)). option_map (λ (e : ℕ × Option ℕ). e.0) o) (found i v.0 l v.1))
  known (block_use i) l h =
      let v = block_there (slice_get a.statements i) h in
      let n = named i v.0 v.1 in
      let count : predecessors_at a.statements i ≡ predecessors_of_rhs v.0.value = ap predecessors_of v.1 in
      (n.0, ap (entry_of s) n.1 ∙ found i v.0 l v.1 ∙ ap (λ (o : Option ℕ). Some (i, o)) (block_predecessors v.0.value v.2 ∙ ap (λ (k : ℕ). Some k) (sym count)))

  lacks : (p : ℕ) (b : PlainAssignment) → length s ≤ p → slice_get a.statements p ≡ Some (assigned b) → LacksName s b.name
  lacks p b l at j w q e =
      let inside : j < length s = slice_get_within s j (assigned w) q in
      let apart : j ≡ p = ec.named_apart j p w b (in_scope j inside ∙ q) at e in
      absurd (omega arith)

  fresh : (p : ℕ) (v : PlainStatement) → length s ≤ p → slice_get a.statements p ≡ Some v → IsFresh s v
  fresh p (assigned b) l at = ap (λ (o : Option (ℕ × Option ℕ)). option_map (λ (e : ℕ × Option ℕ). e.0) o) (entry_none 0 s b.name (lacks p b l at))
  fresh p (condition c) l at = tt
  fresh p (block_condition c) l at = tt

pub ready : (a : Item) → EachClosed a → (s us rest : List PlainStatement) → a.statements ≡ s ++ (us ++ rest) → AreReady s a.statements us
ready a ec s [] rest e = tt
ready a ec s (v ∷ us) rest e =
    let at : slice_get a.statements (length s) ≡ Some v = ap (λ (x : List PlainStatement). slice_get x (length s)) e ∙ get_middle s (us ++ rest) v in
    let c = ec.closed (length s) v at in (
      record {
        fits = c.fits;
        known = λ u h. known a ec s (v ∷ (us ++ rest)) e u (c.below u h) (c.met u h);
        agrees = c.agrees;
        fresh = fresh a ec s (v ∷ (us ++ rest)) e (length s) v (omega arith) at;
      },
      ready a ec (s ++ v ∷ []) us rest (e ∙ sym (append_assoc s (v ∷ []) (us ++ rest))),
    )
