-- The marked positions are those of the needed statements.
use Rattle.std.proofs.Common.{◌≡◌, ◌∙◌, ℕ, ◌<◌, inl, inr, ◌++◌, length, map, List, [], ◌∷◌, Bool, true, false, Result, Ok, Err, refl, sym, ap, subst, arith, get_or}
use Rattle.std.specs.Prelude.{IfOk}
use Rattle.std.proofs.lemmas.Bool.{cases_lt, false≢true}
use Rattle.std.proofs.lemmas.List.{get_or_past, map-append}
use Rattle.souper_graph.specs.declared.stringify.order.Target.{Target}
use Rattle.souper_graph.specs.declared.stringify.order.Target.TheVariants.{Condition}
use Rattle.souper_graph.specs.Values.{PlainStatement, Item}
use Rattle.souper_graph.specs.Uses.{Has, position_of, conditions, conditions_from, first_roots, last_roots, roots_of, first_walks, walks_of, walked, used, Needed}
use Rattle.souper_graph.specs.Walks.{position_of_target}
use Rattle.souper_graph.specs.FlawSearch.{AreReached, AreNeeded, marked_from}
use Rattle.souper_graph.proofs.Lists.{Has-left, Has-right, Has-cases}
use Rattle.souper_graph.proofs.FlawSearch.Marked.{marked_take, marked_has}

conditions_at : (is : List ℕ) → map position_of_target (map (λ i. Condition i) is) ≡ is
conditions_at [] = refl
conditions_at (i ∷ is) = ap (λ z. i ∷ z) (conditions_at is)

-- walks that begin at the same positions
needed_same : (ss : List PlainStatement) (walks walks' : List ℕ) → ((i : ℕ) → Has walks i → Has walks' i) → (i : ℕ) → Needed ss walks i → Needed ss walks' i
needed_same ss walks walks' f i (walked h) = walked (f i h)
needed_same ss walks walks' f i (used {i = p} d h) = used (needed_same ss walks walks' f p d) h

abbrev First : Item → List ℕ
First a = map position_of (first_roots a.ending)

abbrev Last : Item → List ℕ
Last a = map position_of (last_roots a.ending)

roots_split : (a : Item) → map position_of (roots_of a.ending) ≡ First a ++ Last a
roots_split a = map-append position_of (first_roots a.ending) (last_roots a.ending)

to_walks : (a : Item) (i : ℕ) → Has (map position_of (roots_of a.ending) ++ conditions a) i → Has (walks_of a) i
to_walks a i h = elim (Has-cases (map position_of (roots_of a.ending)) (conditions a) i h) [
  | inl r ↦ elim (Has-cases (First a) (Last a) i (subst (λ (z : List ℕ). Has z i) (roots_split a) r)) [
    | inl f ↦ Has-left (first_walks a) (Last a) i (Has-left (First a) (conditions a) i f)
    | inr l ↦ Has-right (first_walks a) (Last a) i l
  ]
  | inr c ↦ Has-left (first_walks a) (Last a) i (Has-right (First a) (conditions a) i c)
]

from_walks : (a : Item) (i : ℕ) → Has (walks_of a) i → Has (map position_of (roots_of a.ending) ++ conditions a) i
from_walks a i h = elim (Has-cases (first_walks a) (Last a) i h) [
  | inl w ↦ elim (Has-cases (First a) (conditions a) i w) [
    | inl f ↦ Has-left (map position_of (roots_of a.ending)) (conditions a) i (subst (λ (z : List ℕ). Has z i) (sym (roots_split a)) (Has-left (First a) (Last a) i f))
    | inr c ↦ Has-right (map position_of (roots_of a.ending)) (conditions a) i c
  ]
  | inr l ↦ Has-left (map position_of (roots_of a.ending)) (conditions a) i (subst (λ (z : List ℕ). Has z i) (sym (roots_split a)) (Has-right (First a) (Last a) i l))
]

mark_within : (marks : List Bool) (i : ℕ) → get_or marks i false ≡ true → i < length marks
mark_within marks i m = elim (cases_lt i (length marks)) [
  | inl l ↦ l
  | inr past ↦ absurd (false≢true (sym (get_or_past marks i false past) ∙ m))
]

needed_of : (a : Item) (marks : List Bool) → AreReached a.statements (map position_of (roots_of a.ending) ++ conditions a) marks → AreNeeded a (marked_from 0 marks)
needed_of a marks r = record {
  inside = λ i h. let below = mark_within marks i ((marked_has marks i).0 h) in let size = r.size in omega arith;
  exact = λ i l. (
    (λ h. needed_same a.statements (map position_of (roots_of a.ending) ++ conditions a) (walks_of a) (to_walks a) i (r.sound i ((marked_has marks i).0 h))),
    (λ n. (marked_has marks i).1 (r.whole i l (needed_same a.statements (walks_of a) (map position_of (roots_of a.ending) ++ conditions a) (from_walks a) i n))),
  );
  ascending = λ k i l. marked_take marks k i l;
}

on_ok : {A E : Type 0} (f : A → List ℕ) (r : Result A E) (a : Item) (ids : List ℕ) → AreNeeded a ids → IfOk r (λ x. f x ≡ ids) → IfOk r (λ x. AreNeeded a (f x))
on_ok f (Ok x) a ids needed e = subst (AreNeeded a) (sym e) needed
on_ok f (Err x) a ids needed e = tt

pub needed_answer : {A E : Type 0} (f : A → List ℕ) (r : Result A E) (a : Item) (ts ts' ts'' : List Target) (marks : List Bool) → ts ≡ [] →
    map position_of_target ts' ≡ map position_of_target ts ++ map position_of (roots_of a.ending) → ts'' ≡ ts' ++ map (λ i. Condition i) (conditions_from 0 a.statements) →
    AreReached a.statements (map position_of_target ts'') marks → IfOk r (λ x. f x ≡ marked_from 0 marks) → IfOk r (λ x. AreNeeded a (f x))
needed_answer f r a ts ts' ts'' marks none roots all reached e =
    let walks : map position_of_target ts'' ≡ map position_of (roots_of a.ending) ++ conditions a =
    ap (map position_of_target) all ∙ map-append position_of_target ts' (map (λ i. Condition i) (conditions a))
    ∙ ap (λ z. map position_of_target ts' ++ z) (conditions_at (conditions a))
    ∙ ap (λ z. z ++ conditions a) (roots ∙ ap (λ z. map position_of_target z ++ map position_of (roots_of a.ending)) none) in
    on_ok f r a (marked_from 0 marks) (needed_of a marks (subst (λ (z : List ℕ). AreReached a.statements z marks) walks reached)) e
