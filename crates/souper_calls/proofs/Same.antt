-- Two sources that spell lists of one kind: the lists are pairwise the same graph if and only if `same` says so.
use Rattle.std.proofs.Common.{◌≡◌, ℕ, List, Option, Some, None, refl, sym, ap, subst, ◌∙◌, inr, arith}
use Rattle.std.specs.Prelude.{IsSomeAnd, ◌≤◌, length, string_bytes}
use Rattle.souper_errors.specs.Places.{IsRefusalTextAt}
use Rattle.std.specs.Str.{IsUtf8}
use Rattle.souper_graph.specs.Values.{Item}
use Rattle.souper_graph.specs.Syntax.Spelling.{ItemType, left_hand_side, right_hand_side, replacement, TextSpells, SpellsNone}
use Rattle.souper_ir.specs.Laws.Peeks.{some_is}
use Rattle.souper_errors.specs.declared.kind.Kind.{Kind}
use Rattle.souper_errors.specs.declared.kind.Kind.TheVariants.{Lhs, Rhs, Rep}
use Rattle.souper_format.specs.declared.items.Items.{Items}
use Rattle.souper_ir.specs.Kinds.{item_type_of}
use Rattle.souper_format.specs.Kinds.{kind_of_items, view_items, SameItems}
use Rattle.souper_calls.specs.Kinds.{type_of_number, OfType}
use Rattle.souper_calls.specs.Outcomes.{BothSpell, AreSameItems, AreNotSame, IsNoTextInput, SpellsSome}
use Rattle.souper_calls.specs.Failures.{IsFailure, outcome_of}
use Rattle.souper_calls.specs.declared.outcome.SouperOutcome.{SouperOutcome}
use Rattle.souper_calls.specs.declared.inputs.Failure.{Failure}
use Rattle.souper_calls.specs.declared.inputs.Failure.TheVariants.{NoKind, NotUtf8, OutOfMemory, Refused}

kind_of_type : ItemType → Kind
kind_of_type left_hand_side = Lhs
kind_of_type right_hand_side = Rhs
kind_of_type replacement = Rep

is_its_kind : (k : Kind) → kind_of_type (item_type_of k) ≡ k
unfolding kind_of_type
is_its_kind Lhs = refl
is_its_kind Rhs = refl
is_its_kind Rep = refl

one_kind : (o : Option ItemType) (k l : Kind) → o ≡ Some (item_type_of k) → o ≡ Some (item_type_of l) → k ≡ l
one_kind o k l is_k is_l = sym (is_its_kind k) ∙ (ap kind_of_type (some_is (sym is_k ∙ is_l)) ∙ is_its_kind l)

both : (o : Option ItemType) (s t : List ℕ) (xs ys : List Item) (fact : List Item → List Item → Type 0)
    → IsSomeAnd o (λ k. TextSpells k s xs) → IsSomeAnd o (λ k. TextSpells k t ys) → fact xs ys
    → IsSomeAnd o (λ k. (xs : List Item) × (ys : List Item) × TextSpells k s xs × TextSpells k t ys × fact xs ys)
both None s t xs ys fact impossible _ _ = absurd impossible
both (Some k) s t xs ys fact first second holds = (xs, ys, first, second, holds)

pub spell_same : (n : ℕ) (a b : Items) (s t : List ℕ) → OfType n (λ k. TextSpells k s (view_items a)) → OfType n (λ k. TextSpells k t (view_items b))
    → SameItems a b → BothSpell n s t AreSameItems
spell_same n a b s t first second are = both (type_of_number n) s t (view_items a) (view_items b) AreSameItems first second are.1

pub spell_others : (n : ℕ) (a b : Items) (s t : List ℕ) → OfType n (λ k. TextSpells k s (view_items a)) → OfType n (λ k. TextSpells k t (view_items b))
    → type_of_number n ≡ Some (item_type_of (kind_of_items a)) → type_of_number n ≡ Some (item_type_of (kind_of_items b))
    → (SameItems a b → ⊥) → BothSpell n s t AreNotSame
spell_others n a b s t first second is_a is_b are_not =
    both (type_of_number n) s t (view_items a) (view_items b) AreNotSame first second
    (λ same. are_not (one_kind (type_of_number n) (kind_of_items a) (kind_of_items b) is_a is_b, same))

spells_some : (o : Option ItemType) (s : List ℕ) (xs : List Item) → IsSomeAnd o (λ k. TextSpells k s xs)
    → IsSomeAnd o (λ k. (xs : List Item) × TextSpells k s xs)
spells_some None s xs impossible = absurd impossible
spells_some (Some k) s xs spells = (xs, spells)

pub of_some : (o : Option ItemType) (fact : Type 0) → IsSomeAnd o (λ k. fact) → fact
of_some None fact impossible = absurd impossible
of_some (Some k) fact holds = holds

-- the first source spells items, and the second is not UTF-8
pub second_no_text : (n : ℕ) (s t : List ℕ) (a : Items) (f : Failure) (o : SouperOutcome) → OfType n (λ k. TextSpells k s (view_items a))
    → IsFailure n t f → o ≡ outcome_of f 1 → o.status ≡ 4 → IsNoTextInput n s t o
second_no_text n s t a NotUtf8 o first is is_o is_four =
    subst (λ (o : SouperOutcome). IsNoTextInput n s t o) (sym is_o)
    (inr (refl, spells_some (type_of_number n) s (view_items a) first, of_some (type_of_number n) (¬ (IsUtf8 t)) is))
second_no_text n s t a NoKind o first is is_o is_four =
    (let clash : 2 ≡ 4 = sym (ap (λ (o : SouperOutcome). o.status) is_o) ∙ is_four in absurd (omega (arith, clash)))
second_no_text n s t a OutOfMemory o first is is_o is_four =
    (let clash : 3 ≡ 4 = sym (ap (λ (o : SouperOutcome). o.status) is_o) ∙ is_four in absurd (omega (arith, clash)))
second_no_text n s t a (Refused r) o first is is_o is_four =
    (let clash : 1 ≡ 4 = sym (ap (λ (o : SouperOutcome). o.status) is_o) ∙ is_four in absurd (omega (arith, clash)))

pub none_and_some : (o : Option ItemType) (s : List ℕ) (A B : Type 0) → IsSomeAnd o (λ k. SpellsNone k s × A × B) → IsSomeAnd o (λ k. (xs : List Item) × TextSpells k s xs) → ⊥
none_and_some None s A B none some = none
none_and_some (Some k) s A B none some = none.0 some.0 some.1

no_type : (o : Option ItemType) (s : List ℕ) → o ≡ None → IsSomeAnd o (λ k. (xs : List Item) × TextSpells k s xs) → ⊥
no_type None s e some = some
no_type (Some k) s e some = cc

-- the first source spells items, and gives none
pub first_fails : (n : ℕ) (s : List ℕ) (f : Failure) (o : SouperOutcome) → IsFailure n s f → o ≡ outcome_of f 0 → SpellsSome n s → IsUtf8 s → o.status ≡ 3
first_fails n s NoKind o is is_o some text = absurd (no_type (type_of_number n) s is some)
first_fails n s NotUtf8 o is is_o some text = absurd (of_some (type_of_number n) (¬ (IsUtf8 s)) is text)
first_fails n s OutOfMemory o is is_o some text = ap (λ (o : SouperOutcome). o.status) is_o
first_fails n s (Refused r) o is is_o some text =
    absurd (none_and_some (type_of_number n) s (r.offset ≤ length s) (IsRefusalTextAt None s r.offset r.line r.column (string_bytes r.shown)) is some)
