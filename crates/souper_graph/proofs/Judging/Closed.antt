-- From what the checks return to when an item is well formed, and back.
use Rattle.std.proofs.Common.{◌≡◌, ℕ, zero, suc, ◌<◌, ◌≤◌, inl, inr, ◌++◌, length, map, get_or, take, List, [], ◌∷◌, Option, Some, None, refl, sym, subst, arith, rules}
use Rattle.std.specs.Prelude.{slice_get}
use Rattle.std.proofs.lemmas.List.{take_all}
use Rattle.std.specs.List.{AllByRecursion}
use Rattle.souper_graph.specs.declared.stringify.errors.TextError.{TextError}
use Rattle.souper_graph.specs.declared.stringify.errors.TextError.TheVariants.{OutOfRange, NotAnAssignment, NotABlock, OutOfMemory}
use Rattle.souper_graph.specs.Values.{PlainStatement, Item}
use Rattle.souper_graph.specs.Uses.{Has, Use, value_use, block_use, uses_of, uses_of_optional, NeededIn}
use Rattle.souper_graph.specs.Faults.{NamedIn, IsFaultOf}
use Rattle.souper_graph.specs.WellFormed.{Closed, WellFormed, IsAssigned, IsBlock, IsMet, AreMet}
use Rattle.souper_graph.specs.Judging.{IsMetBelow, AreMetBelow, MayStand, MayStandAt}

-- a property of each image holds of the image of the element at i
pub All-map_at : {A B : Type 0} (P : B → Type 0) (f : A → B) (xs : List A) (i : ℕ) (x : A) → i < length xs → x ≡ get_or xs i x → AllByRecursion P (map f xs) → P (f x)
All-map_at P f [] i x lt e h = absurd (omega arith)
All-map_at P f (y ∷ ys) zero x lt e h = subst (λ z. P (f z)) (sym e) h.0
All-map_at P f (y ∷ ys) (suc i) x lt e h = All-map_at P f ys i x (omega arith) e h.1

pub All-at : {A : Type 0} (P : A → Type 0) (xs : List A) (i : ℕ) (x : A) → i < length xs → x ≡ get_or xs i x → AllByRecursion P xs → P x
All-at P [] i x lt e h = absurd (omega arith)
All-at P (y ∷ ys) zero x lt e h = subst P (sym e) h.0
All-at P (y ∷ ys) (suc i) x lt e h = All-at P ys i x (omega arith) e h.1

pub All-taken : {A : Type 0} (P : A → Type 0) (xs : List A) (i : ℕ) → length xs ≤ i → AllByRecursion P (take i xs) → AllByRecursion P xs
All-taken P xs i le h = subst (AllByRecursion P) (take_all i xs le) h

pub All-both : {A : Type 0} (P : A → Type 0) (xs ys : List A) → AllByRecursion P xs → AllByRecursion P ys → AllByRecursion P (xs ++ ys)
All-both P [] ys h k = k
All-both P (x ∷ xs) ys h k = (h.0, All-both P xs ys h.1 k)

pub All-first : {A : Type 0} (P : A → Type 0) (xs ys : List A) → AllByRecursion P (xs ++ ys) → AllByRecursion P xs
All-first P [] ys h = search rules
All-first P (x ∷ xs) ys h = (h.0, All-first P xs ys h.1)

pub All-second : {A : Type 0} (P : A → Type 0) (xs ys : List A) → AllByRecursion P (xs ++ ys) → AllByRecursion P ys
All-second P [] ys h = h
All-second P (x ∷ xs) ys h = All-second P xs ys h.1

pub All-from_has : {A : Type 0} (P : A → Type 0) (xs : List A) → ((x : A) → Has xs x → P x) → AllByRecursion P xs
All-from_has P [] h = search rules
All-from_has P (x ∷ xs) h = (h x (inl refl), All-from_has P xs (λ y k. h y (inr k)))

pub All-has : {A : Type 0} (P : A → Type 0) (xs : List A) (x : A) → AllByRecursion P xs → Has xs x → P x
All-has P [] x h k = absurd k
All-has P (y ∷ ys) x h (inl e) = subst P e h.0
All-has P (y ∷ ys) x h (inr k) = All-has P ys x h.1 k

assigned_below : (ss : List PlainStatement) (i : ℕ) → IsAssigned (slice_get ss i) → i < length ss
assigned_below [] i h = absurd h
assigned_below (s ∷ ss) zero h = omega arith
assigned_below (s ∷ ss) (suc i) h = let below = assigned_below ss i h in omega arith

block_below : (ss : List PlainStatement) (i : ℕ) → IsBlock (slice_get ss i) → i < length ss
block_below [] i h = absurd h
block_below (s ∷ ss) zero h = omega arith
block_below (s ∷ ss) (suc i) h = let below = block_below ss i h in omega arith

pub AreMet-from_below : (ss : List PlainStatement) (limit : ℕ) (us : List Use) → AreMetBelow ss limit us → AreMet ss us
AreMet-from_below ss limit us h = λ u k. (All-has (IsMetBelow ss limit) us u h k).1

-- a statement that is valid at its position, and back
pub closed_of_stands : (ss : List PlainStatement) (p : ℕ) (s : PlainStatement) → slice_get ss p ≡ Some s → MayStandAt ss p → Closed ss p s
closed_of_stands ss p s e h =
    let parts = subst (MayStand ss p) e h in
    record {
      fits = parts.0;
      below = λ u k. (All-has (IsMetBelow ss p) (uses_of s) u parts.1 k).0;
      met = AreMet-from_below ss p (uses_of s) parts.1;
      agrees = parts.2;
    }

stands_any : (ss : List PlainStatement) (p : ℕ) (o : Option PlainStatement) → ((s : PlainStatement) → o ≡ Some s → Closed ss p s) → MayStand ss p o
stands_any ss p None h = tt
stands_any ss p (Some s) h =
    let closed = h s refl in
    (closed.fits, All-from_has (IsMetBelow ss p) (uses_of s) (λ u k. (closed.below u k, closed.met u k)), closed.agrees)

pub stands_of_closed : (ss : List PlainStatement) (p : ℕ) → ((s : PlainStatement) → slice_get ss p ≡ Some s → Closed ss p s) → MayStandAt ss p
stands_of_closed ss p h = stands_any ss p (slice_get ss p) h

-- the statement at a use of a well formed item is of the kind that the use asks for
met_of_optional : (a : Item) (p : ℕ) (o : Option PlainStatement) (u : Use) → WellFormed a → NeededIn a p → slice_get a.statements p ≡ o → Has (uses_of_optional o) u → IsMet a.statements u
met_of_optional a p None u w needed e h = absurd h
met_of_optional a p (Some s) u w needed e h = (w.closed p s needed e).met u h

met_of_named : (a : Item) (u : Use) → WellFormed a → NamedIn a u → IsMet a.statements u
met_of_named a u w (inl root) = w.roots_met u root
met_of_named a u w (inr other) = met_of_optional a other.0 (slice_get a.statements other.0) u w other.1 refl other.2

-- the only error of a well formed item is out of memory
pub fault_of_well_formed : (a : Item) (e : TextError) → WellFormed a → IsFaultOf a e → e ≡ OutOfMemory
fault_of_well_formed a (OutOfRange i) w fault =
    elim fault.0 [
      | inl named ↦ let below = assigned_below a.statements i (met_of_named a (value_use i) w named) in absurd (omega (arith, fault.1))
      | inr named ↦ let below = block_below a.statements i (met_of_named a (block_use i) w named) in absurd (omega (arith, fault.1))
    ]
fault_of_well_formed a (NotAnAssignment i) w fault = absurd (fault.2 (met_of_named a (value_use i) w fault.0))
fault_of_well_formed a (NotABlock i) w fault = absurd (fault.2 (met_of_named a (block_use i) w fault.0))
fault_of_well_formed a OutOfMemory w fault = refl
