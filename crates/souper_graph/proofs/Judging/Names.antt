-- Distinct names of assignments, gathered one by one.
use Rattle.std.proofs.Common.{◌≡◌, ℕ, zero, suc, ◌<◌, ◌⊎◌, inl, inr, ◌++◌, ◌||◌, length, get_or, take, List, [], ◌∷◌, Bool, true, false, cond, Option, Some, None, refl, sym, ◌∙◌, ap, subst, arith, not}
use Rattle.std.specs.Prelude.{bytes_eq, slice_get}
use Rattle.std.specs.Borrow.{Bor}
use Rattle.std.specs.BTreeSet.{BTreeSet, Updates, contains_by}
use Rattle.std.specs.Cmp.Lexicographic.{slice_cmp}
use Rattle.std.specs.Ordering.{nat_cmp}
use Rattle.std.proofs.lemmas.Bool.{false≢true}
use Rattle.std.proofs.lemmas.Slice.Eq.{bytes_eq-Decides}
use Rattle.std.proofs.lemmas.Map.Text.{is_eq-slice_cmp}
use Rattle.souper_graph.specs.Values.{PlainStatement, PlainAssignment, assigned, condition, block_condition}
use Rattle.souper_graph.specs.Uses.{Has}
use Rattle.souper_graph.specs.Order.{Distinct}
use Rattle.souper_graph.specs.WellFormed.{AreNamedApart}
use Rattle.souper_graph.specs.Judging.{assigned_name, assigned_name_at}
use Rattle.souper_graph.proofs.Lists.{Has-cases}

abbrev pub is_name : Option (List ℕ) → List ℕ → Bool
is_name None n = false
is_name (Some m) n = bytes_eq m n

-- an assignment at one of the positions has the name
abbrev pub has_name : List PlainStatement → List ℕ → List ℕ → Bool
has_name ss [] n = false
has_name ss (p ∷ ps) n = is_name (assigned_name_at ss p) n || has_name ss ps n

-- the set has the names of the assignments at the positions, and no other
abbrev pub NamesAre : BTreeSet (Bor (List ℕ)) → List PlainStatement → List ℕ → Type 0
NamesAre names ss ids = (n : List ℕ) → contains_by (λ (k : Bor (List ℕ)). slice_cmp nat_cmp n k.now) names ≡ has_name ss ids n

-- the assignments at the positions have distinct names
abbrev pub Apart : List PlainStatement → List ℕ → Type 0
Apart ss ids = (p q : ℕ) (n : List ℕ) → Has ids p → Has ids q → assigned_name_at ss p ≡ Some n → assigned_name_at ss q ≡ Some n → p ≡ q

or_false : (b : Bool) → (b || false) ≡ cond b true false
or_false true = refl
or_false false = refl

or_more : (a b h r : Bool) → r ≡ cond b true h → (a || r) ≡ cond b true (a || h)
or_more true true h r e = refl
or_more true false h r e = refl
or_more false b h r e = e

or_true : (a b : Bool) → (a || b) ≡ true → (a ≡ true) ⊎ (b ≡ true)
or_true true b e = inl refl
or_true false b e = inr e

or_right : (a b : Bool) → b ≡ true → (a || b) ≡ true
or_right true b e = refl
or_right false b e = e

has_name_push : (ss : List PlainStatement) (ids : List ℕ) (x : ℕ) (n : List ℕ) → has_name ss (ids ++ x ∷ []) n ≡ cond (is_name (assigned_name_at ss x) n) true (has_name ss ids n)
has_name_push ss [] x n = or_false (is_name (assigned_name_at ss x) n)
has_name_push ss (p ∷ ps) x n = or_more (is_name (assigned_name_at ss p) n) (is_name (assigned_name_at ss x) n) (has_name ss ps n) (has_name ss (ps ++ x ∷ []) n) (has_name_push ss ps x n)

is_name_true : (o : Option (List ℕ)) (n : List ℕ) → is_name o n ≡ true → o ≡ Some n
is_name_true None n e = absurd (false≢true e)
is_name_true (Some m) n e = ap (λ (x : List ℕ). Some x) ((bytes_eq-Decides m n).0 e)

pub has_name_true : (ss : List PlainStatement) (ids : List ℕ) (n : List ℕ) → has_name ss ids n ≡ true → (p : ℕ) × Has ids p × (assigned_name_at ss p ≡ Some n)
has_name_true ss [] n e = absurd (false≢true e)
has_name_true ss (p ∷ ps) n e =
    elim (or_true (is_name (assigned_name_at ss p) n) (has_name ss ps n) e) [
      | inl here ↦ (p, inl refl, is_name_true (assigned_name_at ss p) n here)
      | inr there ↦ let w = has_name_true ss ps n there in (w.0, inr w.1, w.2)
    ]

has_name_from : (ss : List PlainStatement) (ids : List ℕ) (p : ℕ) (n : List ℕ) → Has ids p → assigned_name_at ss p ≡ Some n → has_name ss ids n ≡ true
has_name_from ss [] p n h e = absurd h
has_name_from ss (q ∷ qs) p n (inl s) e =
    let here : is_name (assigned_name_at ss q) n ≡ true = rw (s, e) ((bytes_eq-Decides n n).1 refl) in
    ap (λ (b : Bool). b || has_name ss qs n) here
has_name_from ss (q ∷ qs) p n (inr h) e = or_right (is_name (assigned_name_at ss q) n) (has_name ss qs n) (has_name_from ss qs p n h e)

-- one more name, which was not there
pub names_more : (old new : BTreeSet (Bor (List ℕ))) (ss : List PlainStatement) (ids : List ℕ) (x : ℕ) (key : Bor (List ℕ))
    → NamesAre old ss ids → Updates (λ (x y : Bor (List ℕ)). slice_cmp nat_cmp x.now y.now) old new key true → assigned_name_at ss x ≡ Some key.now
    → NamesAre new ss (ids ++ x ∷ [])
names_more old new ss ids x key tie up named n =
    let q : Bor (List ℕ) = record key { now = n } in
    up.0 q
    ∙ rw (is_eq-slice_cmp key.now n, tie n) (sym (has_name_push ss ids x n ∙ ap (λ (o : Option (List ℕ)). cond (is_name o n) true (has_name ss ids n)) named))

-- one more position, at which there is no assignment
pub names_same : (names : BTreeSet (Bor (List ℕ))) (ss : List PlainStatement) (ids : List ℕ) (x : ℕ) → NamesAre names ss ids → assigned_name_at ss x ≡ None → NamesAre names ss (ids ++ x ∷ [])
names_same names ss ids x tie none n =
    tie n ∙ sym (has_name_push ss ids x n ∙ ap (λ (o : Option (List ℕ)). cond (is_name o n) true (has_name ss ids n)) none)

only : (x p : ℕ) → Has (x ∷ []) p → x ≡ p
only x p (inl e) = e
only x p (inr h) = absurd h

-- one more position, whose name no earlier one has
pub apart_more : (ss : List PlainStatement) (ids : List ℕ) (x : ℕ) → ((p : ℕ) (n : List ℕ) → Has ids p → assigned_name_at ss p ≡ Some n → assigned_name_at ss x ≡ Some n → ⊥) → Apart ss ids → Apart ss (ids ++ x ∷ [])
apart_more ss ids x fresh apart p q n hp hq ep eq =
    elim (Has-cases ids (x ∷ []) p hp) [
      | inl a ↦ elim (Has-cases ids (x ∷ []) q hq) [
        | inl b ↦ apart p q n a b ep eq
        | inr b ↦ absurd (fresh p n a ep (subst (λ (z : ℕ). assigned_name_at ss z ≡ Some n) (sym (only x q b)) eq))
      ]
      | inr a ↦ elim (Has-cases ids (x ∷ []) q hq) [
        | inl b ↦ absurd (fresh q n b eq (subst (λ (z : ℕ). assigned_name_at ss z ≡ Some n) (sym (only x p a)) ep))
        | inr b ↦ sym (only x p a) ∙ only x q b
      ]
    ]

pub fresh_new : (ss : List PlainStatement) (ids : List ℕ) (x : ℕ) (m : List ℕ) → assigned_name_at ss x ≡ Some m → has_name ss ids m ≡ false → (p : ℕ) (n : List ℕ) → Has ids p → assigned_name_at ss p ≡ Some n → assigned_name_at ss x ≡ Some n → ⊥
fresh_new ss ids x m named new p n h ep ex =
    let same : n ≡ m = cc in
    false≢true (sym new ∙ has_name_from ss ids p m h (subst (λ (z : List ℕ). assigned_name_at ss p ≡ Some z) same ep))

pub fresh_none : (ss : List PlainStatement) (ids : List ℕ) (x : ℕ) → assigned_name_at ss x ≡ None → (p : ℕ) (n : List ℕ) → Has ids p → assigned_name_at ss p ≡ Some n → assigned_name_at ss x ≡ Some n → ⊥
fresh_none ss ids x none p n h ep ex = cc

pub was_there : (v b : Bool) → v ≡ not b → v ≡ false → b ≡ true
was_there v true e f = refl
was_there v false e f = absurd (cc)

pub was_new : (v b : Bool) → v ≡ not b → v ≡ true → b ≡ false
was_new v true e f = absurd (cc)
was_new v false e f = refl

pub Has-taken : (xs : List ℕ) (i p : ℕ) → Has (take i xs) p → Has xs p
Has-taken [] zero p h = h
Has-taken [] (suc i) p h = h
Has-taken (x ∷ xs) zero p h = absurd h
Has-taken (x ∷ xs) (suc i) p (inl e) = inl e
Has-taken (x ∷ xs) (suc i) p (inr h) = inr (Has-taken xs i p h)

pub Has-at : (xs : List ℕ) (i d : ℕ) → i < length xs → Has xs (get_or xs i d)
Has-at [] i d lt = absurd (omega arith)
Has-at (x ∷ xs) zero d lt = inl refl
Has-at (x ∷ xs) (suc i) d lt = inr (Has-at xs i d (omega arith))

pub Distinct-at : (xs : List ℕ) (i d : ℕ) → Distinct xs → i < length xs → Has (take i xs) (get_or xs i d) → ⊥
Distinct-at [] i d u lt h = absurd (omega arith)
Distinct-at (x ∷ xs) zero d u lt h = h
Distinct-at (x ∷ xs) (suc i) d u lt (inl e) = u.0 (subst (λ (z : ℕ). Has xs z) (sym e) (Has-at xs i d (omega arith)))
Distinct-at (x ∷ xs) (suc i) d u lt (inr h) = Distinct-at xs i d u.1 (omega arith) h

pub name_source : (o : Option PlainStatement) (n : List ℕ) → assigned_name o ≡ Some n → (v : PlainAssignment) × (o ≡ Some (assigned v)) × (v.name ≡ n)
name_source None n e = absurd (cc)
name_source (Some (assigned v)) n e = (v, refl, cc)
name_source (Some (condition p)) n e = absurd (cc)
name_source (Some (block_condition p)) n e = absurd (cc)

pub apart_to : (ss : List PlainStatement) (ids : List ℕ) → Apart ss ids → AreNamedApart ss (Has ids)
apart_to ss ids apart p q v w hp hq ep eq same =
    apart p q v.name hp hq (ap assigned_name ep) (ap assigned_name eq ∙ ap (λ (x : List ℕ). Some x) (sym same))

pub apart_from : (ss : List PlainStatement) (ids : List ℕ) → AreNamedApart ss (Has ids) → Apart ss ids
apart_from ss ids apart p q n hp hq ep eq =
    let v = name_source (slice_get ss p) n ep in
    let w = name_source (slice_get ss q) n eq in
    apart p q v.0 w.0 hp hq v.1 w.1 (v.2 ∙ sym w.2)
