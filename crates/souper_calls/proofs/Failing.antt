-- What the outcome says of a text that fails: of the first one that does, if there are several.
use Rattle.std.proofs.Common.{◌≡◌, ◌⊎◌, ℕ, ◌<◌, ◌≤◌, List, Some, None, length, refl, sym, subst, inl, inr, arith}
use Rattle.std.specs.Prelude.{◌≢◌, string_bytes}
use Rattle.std.specs.Str.{IsUtf8}
use Rattle.std.proofs.lemmas.Bool.{cases_lt}
use Rattle.souper_graph.specs.Syntax.Spelling.{left_hand_side, replacement}
use Rattle.souper_errors.specs.Places.{IsRefusalTextAt}
use Rattle.souper_calls.specs.Kinds.{type_of_number, IsKind}
use Rattle.souper_calls.specs.Outcomes.{HasNoPlace, FillsStart, WritesRefusal, SpellsSome}
use Rattle.souper_calls.specs.Answers.{ShowRefusal}
use Rattle.souper_calls.specs.Failures.{IsFailure, outcome_of, short_outcome, shown_of}
use Rattle.souper_calls.specs.declared.outcome.SouperOutcome.{SouperOutcome}
use Rattle.souper_calls.specs.declared.inputs.Refusal.{Refusal}
use Rattle.souper_calls.specs.declared.inputs.Failure.{Failure}
use Rattle.souper_calls.specs.declared.inputs.Failure.TheVariants.{NoKind, NotUtf8, OutOfMemory, Refused}
use Rattle.souper_calls.proofs.Same.{of_some, none_and_some}

pub left_hand_sides_are_a_kind : IsKind 0
left_hand_sides_are_a_kind = λ (e : Some left_hand_side ≡ None). absurd cc

pub replacements_are_a_kind : IsKind 2
replacements_are_a_kind = λ (e : Some replacement ≡ None). absurd cc

-- the outcome for a failure of the text with that index, and the buffer before and after
pub record Fails (kind : ℕ) (source : List ℕ) (f : Failure) (input : ℕ) (old new : List ℕ) (o : SouperOutcome) : Type 0 where
  pub known : (o.status ≤ 5) × (o.status ≢ 2)
  pub not_done : o.status ≢ 0
  pub refused : o.status ≡ 1 → (o.input ≡ input) × WritesRefusal kind source o old new
  pub no_text : o.status ≡ 4 → (o.input ≡ input) × ¬ (IsUtf8 source)
  pub not_utf8 : f ≡ NotUtf8 → (o.status ≡ 4) × (o.input ≡ input)
  pub spelled : SpellsSome kind source → IsUtf8 source → o.status ≡ 3
  pub short : o.status ≡ 5 → (length old < o.length) × ((bytes : List ℕ) × ShowRefusal kind source bytes × (o.length ≡ length bytes))
  pub kept : 2 ≤ o.status → new ≡ old
  pub no_place : (o.status ≡ 1) ⊎ HasNoPlace o
  pub no_length : 2 ≤ o.status → (o.status ≡ 5) ⊎ (o.length ≡ 0)
  pub first : (o.status ≡ 1) ⊎ (o.status ≡ 4) ⊎ (o.input ≡ 0)

module _ (kind : ℕ) (source : List ℕ) (input : ℕ) (old new : List ℕ) where
  not_utf8_fails : IsFailure kind source NotUtf8 → new ≡ old → Fails kind source NotUtf8 input old new (outcome_of NotUtf8 input)
  not_utf8_fails is same = record {
    known = (omega arith, λ two. absurd (omega (arith, two)));
    not_done = λ done. absurd (omega (arith, done));
    refused = λ one. absurd (omega (arith, one));
    no_text = λ _. (refl, of_some (type_of_number kind) (¬ (IsUtf8 source)) is);
    not_utf8 = λ _. (refl, refl);
    spelled = λ some text. absurd (of_some (type_of_number kind) (¬ (IsUtf8 source)) is text);
    short = λ five. absurd (omega (arith, five));
    kept = λ _. same;
    no_place = inr (refl, refl, refl);
    no_length = λ _. inr refl;
    first = inr (inl refl);
  }

  memory_fails : new ≡ old → Fails kind source OutOfMemory input old new (outcome_of OutOfMemory input)
  memory_fails same = record {
    known = (omega arith, λ two. absurd (omega (arith, two)));
    not_done = λ done. absurd (omega (arith, done));
    refused = λ one. absurd (omega (arith, one));
    no_text = λ four. absurd (omega (arith, four));
    not_utf8 = λ e. absurd cc;
    spelled = λ some text. refl;
    short = λ five. absurd (omega (arith, five));
    kept = λ _. same;
    no_place = inr (refl, refl, refl);
    no_length = λ _. inr refl;
    first = inr (inr refl);
  }

  module _ (r : Refusal) (is : IsFailure kind source (Refused r)) where
    refused_is_spelled : {A : Type 0} → SpellsSome kind source → A
    refused_is_spelled some = absurd (none_and_some (type_of_number kind) source (r.offset ≤ length source) (IsRefusalTextAt None source r.offset r.line r.column (string_bytes r.shown)) is some)

    refusal_fails : FillsStart old new (string_bytes r.shown) → Fails kind source (Refused r) input old new (outcome_of (Refused r) input)
    refusal_fails begins = record {
      known = (omega arith, λ two. absurd (omega (arith, two)));
      not_done = λ done. absurd (omega (arith, done));
      refused = λ _. (refl, (string_bytes r.shown, (is, refl), begins));
      no_text = λ four. absurd (omega (arith, four));
      not_utf8 = λ e. absurd cc;
      spelled = λ some text. refused_is_spelled some;
      short = λ five. absurd (omega (arith, five));
      kept = λ two. absurd (omega (arith, two));
      no_place = inl refl;
      no_length = λ two. absurd (omega (arith, two));
      first = inl refl;
    }

    short_fails : length old < length (string_bytes r.shown) → new ≡ old → Fails kind source (Refused r) input old new (short_outcome (length (string_bytes r.shown)))
    short_fails less same = record {
      known = (omega arith, λ two. absurd (omega (arith, two)));
      not_done = λ done. absurd (omega (arith, done));
      refused = λ one. absurd (omega (arith, one));
      no_text = λ four. absurd (omega (arith, four));
      not_utf8 = λ e. absurd cc;
      spelled = λ some text. refused_is_spelled some;
      short = λ _. (less, (string_bytes r.shown, (r.offset, r.line, r.column, is), refl));
      kept = λ _. same;
      no_place = inr (refl, refl, refl);
      no_length = λ _. inl refl;
      first = inr (inr refl);
    }

-- what `write_failure` does, by what it ensures
pub fails : (kind : ℕ) (source : List ℕ) (input : ℕ) (old new : List ℕ) (f : Failure) (o : SouperOutcome) → IsKind kind → IsFailure kind source f
    → (length (shown_of f) ≤ length old → (o ≡ outcome_of f input) × FillsStart old new (shown_of f))
    → (length old < length (shown_of f) → (o ≡ short_outcome (length (shown_of f))) × (new ≡ old)) → Fails kind source f input old new o
fails kind source input old new NoKind o some is fits lacks = absurd (some is)
fails kind source input old new NotUtf8 o some is fits lacks =
    let w = fits (omega arith) in subst (λ (o : SouperOutcome). Fails kind source NotUtf8 input old new o) (sym w.0) (not_utf8_fails kind source input old new is w.1.1)
fails kind source input old new OutOfMemory o some is fits lacks =
    let w = fits (omega arith) in subst (λ (o : SouperOutcome). Fails kind source OutOfMemory input old new o) (sym w.0) (memory_fails kind source input old new w.1.1)
fails kind source input old new (Refused r) o some is fits lacks = elim (cases_lt (length old) (length (string_bytes r.shown))) [
  | inl less ↦ subst (λ (o : SouperOutcome). Fails kind source (Refused r) input old new o) (sym (lacks less).0) (short_fails kind source input old new r is less (lacks less).1)
  | inr room ↦ subst (λ (o : SouperOutcome). Fails kind source (Refused r) input old new o) (sym (fits room).0) (refusal_fails kind source input old new r is (fits room).1)
]
