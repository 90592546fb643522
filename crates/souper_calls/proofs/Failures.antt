-- What a failure says of a text that a parser rejected.
use Rattle.std.proofs.Common.{◌≡◌, ◌⊎◌, ℕ, ◌+◌, ◌≤◌, List, [], Option, Some, None, length, sym, ◌∙◌, subst, ap, refl, inl, inr, ◌<◌, arith}
use Rattle.std.specs.Prelude.{string_bytes, IfSome, IsSomeAnd}
use Rattle.std.proofs.lemmas.Bool.{cases_lt}
use Rattle.souper_graph.specs.Syntax.Spelling.{ItemType, SpellsNone}
use Rattle.souper_ir.specs.Laws.Peeks.{some_is}
use Rattle.souper_ir.specs.Answers.{IsStrError}
use Rattle.souper_errors.specs.Errors.{kind_of, offset_of, line_of, column_of, shown_error, HasLocation, ShowsPlace, OnKind}
use Rattle.souper_errors.specs.Places.{IsRefusalTextAt}
use Rattle.souper_errors.specs.declared.error.ParseError.{ParseError}
use Rattle.souper_errors.specs.declared.error.ParseErrorKind.{ParseErrorKind}
use Rattle.souper_errors.specs.declared.error.ParseErrorKind.TheVariants.{Parse}
use Rattle.souper_calls.specs.Kinds.{type_of_number}
use Rattle.souper_calls.specs.Outcomes.{HasNoPlace, IsShortFor, FillsStart, WritesRefusal}
use Rattle.souper_calls.specs.Failures.{IsFailure, IsFailureOf, outcome_of, short_outcome}
use Rattle.souper_calls.specs.declared.outcome.SouperOutcome.{SouperOutcome}
use Rattle.souper_calls.specs.declared.inputs.Refusal.{Refusal}
use Rattle.souper_calls.specs.declared.inputs.Failure.{Failure}
use Rattle.souper_calls.specs.declared.inputs.Failure.TheVariants.{NoKind, NotUtf8, OutOfMemory, Refused}

-- a parse error of the source, as the parser returns it
abbrev IsRefusal : ItemType → List ℕ → ParseError → Type 0
IsRefusal k source e = (offset : ℕ) × (offset_of e ≡ Some offset) × (offset ≤ length source) × SpellsNone k source
    × ShowsPlace None source offset e × HasLocation source e

-- the same, by the numbers and the text that the error has
by_numbers : (k : ItemType) (source : List ℕ) (e : ParseError) (offset line column : ℕ) (shown : List ℕ) → IsRefusal k source e
    → offset_of e ≡ Some offset → line_of e ≡ Some line → column_of e ≡ Some column → shown_error e ≡ Some shown
    → SpellsNone k source × (offset ≤ length source) × IsRefusalTextAt None source offset line column shown
by_numbers k source e offset line column shown (found, at, within, none, p, located) is_offset is_line is_column is_shown =
    let same : found ≡ offset = some_is (sym at ∙ is_offset) in
    let same_line : p.line ≡ line = some_is (sym p.line_is ∙ is_line) in
    let same_column : p.column ≡ column = some_is (sym p.column_is ∙ is_column) in (
      none,
      subst (λ (n : ℕ). n ≤ length source) same within,
      subst (λ (n : ℕ). IsRefusalTextAt None source n line column shown) same
          (subst (λ (n : ℕ). IsRefusalTextAt None source found n column shown) same_line
          (subst (λ (n : ℕ). IsRefusalTextAt None source found p.line n shown) same_column
          (p.message, p.text, p.is_place, some_is (sym is_shown ∙ p.shown_is)))),
    )

refusal_of : (k : ItemType) (source : List ℕ) (e : ParseError) → IsStrError k None source e → kind_of e ≡ Parse → IsRefusal k source e
refusal_of k source e is kind = subst (λ (x : ParseErrorKind). OnKind x ⊥ (IsRefusal k source e) (Unit {0})) kind is

-- its offset is within the source, which spells no items
pub offset_within : (k : ItemType) (source : List ℕ) (e : ParseError) → IsStrError k None source e → kind_of e ≡ Parse → IfSome (offset_of e) (λ (n : ℕ). 0 + n ≤ length source)
offset_within k source e is kind =
    let (offset, is_offset, fits, none, shown, located) = refusal_of k source e is kind in
    let within : 0 + offset ≤ length source = omega (arith, fits) in
    subst (λ (o : Option ℕ). IfSome o (λ (n : ℕ). 0 + n ≤ length source)) (sym is_offset) within

pub spells_none : (k : ItemType) (source : List ℕ) (e : ParseError) → IsStrError k None source e → kind_of e ≡ Parse → SpellsNone k source
spells_none k source e is kind =
    let (offset, is_offset, fits, none, shown, located) = refusal_of k source e is kind in
    none

-- what the failure for an error says is so of the source that the parser rejected
pub of_error : (number : ℕ) (k : ItemType) (source : List ℕ) (e : ParseError) (f : Failure)
    → type_of_number number ≡ Some k → IsStrError k None source e → IsFailureOf e f → IsFailure number source f
of_error number k source e (Refused r) is_kind is (kind, offset, line, column, shown) =
    subst (λ o. IsSomeAnd o (λ (k : ItemType). SpellsNone k source × (r.offset ≤ length source)
    × IsRefusalTextAt None source r.offset r.line r.column (string_bytes r.shown))) (sym is_kind)
    (by_numbers k source e r.offset r.line r.column (string_bytes r.shown)
    (refusal_of k source e is kind) offset line column shown)
of_error number k source e OutOfMemory is_kind is _ = subst (λ o. IsSomeAnd o (λ (k : ItemType). Unit {0})) (sym is_kind) tt
of_error number k source e NoKind is_kind is impossible = absurd impossible
of_error number k source e NotUtf8 is_kind is impossible = absurd impossible

-- what writing to a buffer of that content does: the outcome is the given one, or says that the buffer is short
abbrev Wrote : List ℕ → List ℕ → List ℕ → SouperOutcome → SouperOutcome → Type 0
Wrote old new shown given o = (length shown ≤ length old → (o ≡ given) × FillsStart old new shown)
    × (length old < length shown → (o ≡ short_outcome (length shown)) × (new ≡ old))

-- a buffer that lacks room for a parse error
pub refusal_is_short : (gives : ℕ → List ℕ → List ℕ → Type 0) (number : ℕ) (source old new : List ℕ) (r : Refusal) (given o : SouperOutcome) → IsFailure number source (Refused r)
    → Wrote old new (string_bytes r.shown) given o → given.status ≡ 1 → o.status ≡ 5 → IsShortFor gives number source o old
refusal_is_short gives number source old new r given o is (fits, lacks) is_given is_short =
    elim (cases_lt (length old) (length (string_bytes r.shown))) [
      | inl l ↦ subst (λ (o : SouperOutcome). IsShortFor gives number source o old) (sym (lacks l).0)
          (l, (string_bytes r.shown, inr (r.offset, r.line, r.column, is), refl))
      | inr l ↦ (let clash : 1 ≡ 5 = sym is_given ∙ (sym (ap (λ (o : SouperOutcome). o.status) (fits l).0) ∙ is_short) in absurd (omega (arith, clash)))
    ]

-- a parse error that was written
pub refusal_is_written : (number : ℕ) (source old new : List ℕ) (r : Refusal) (given o : SouperOutcome) → IsFailure number source (Refused r)
    → Wrote old new (string_bytes r.shown) given o → given ≡ outcome_of (Refused r) 0 → o.status ≡ 1 → WritesRefusal number source o old new
refusal_is_written number source old new r given o is (fits, lacks) is_given is_refused =
    elim (cases_lt (length old) (length (string_bytes r.shown))) [
      | inl l ↦ (let clash : 5 ≡ 1 = sym (ap (λ (o : SouperOutcome). o.status) (lacks l).0) ∙ is_refused in absurd (omega (arith, clash)))
      | inr l ↦ subst (λ (o : SouperOutcome). WritesRefusal number source o old new) (sym ((fits l).0 ∙ is_given)) (string_bytes r.shown, (is, refl), (fits l).1)
    ]

-- what was asked for was written
pub bytes_are_written : (old new bytes : List ℕ) (given o : SouperOutcome) → Wrote old new bytes given o → given.length ≡ length bytes → o.status ≡ 0
    → (o.length ≡ length bytes) × FillsStart old new bytes
bytes_are_written old new bytes given o (fits, lacks) is_given is_done =
    elim (cases_lt (length old) (length bytes)) [
      | inl l ↦ (let clash : 5 ≡ 0 = sym (ap (λ (o : SouperOutcome). o.status) (lacks l).0) ∙ is_done in absurd (omega (arith, clash)))
      | inr l ↦ (ap (λ (o : SouperOutcome). o.length) (fits l).0 ∙ is_given, (fits l).1)
    ]

-- a parse error that was written has a place, and a buffer that lacks room for it has none
pub refusal_has_place : (old new : List ℕ) (r : Refusal) (given o : SouperOutcome) → Wrote old new (string_bytes r.shown) given o → given.status ≡ 1 → (o.status ≡ 1) ⊎ HasNoPlace o
refusal_has_place old new r given o (fits, lacks) is = elim (cases_lt (length old) (length (string_bytes r.shown))) [
  | inl small ↦ inr (subst HasNoPlace (sym (lacks small).0) (refl, refl, refl))
  | inr room ↦ inl (ap (λ (x : SouperOutcome). x.status) (fits room).0 ∙ is)
]

-- a buffer that lacks room for what was asked for
pub bytes_are_short : (old new bytes : List ℕ) (given o : SouperOutcome) → Wrote old new bytes given o → given.status ≡ 0 → o.status ≡ 5 → (length old < o.length) × (o.length ≡ length bytes)
bytes_are_short old new bytes given o (fits, lacks) is_given is_short = elim (cases_lt (length old) (length bytes)) [
  | inl l ↦ (let e = ap (λ (o : SouperOutcome). o.length) (lacks l).0 in (subst (λ (n : ℕ). length old < n) (sym e) l, e))
  | inr l ↦ (let clash : 0 ≡ 5 = sym is_given ∙ (sym (ap (λ (o : SouperOutcome). o.status) (fits l).0) ∙ is_short) in absurd (omega (arith, clash)))
]

-- no bytes have room in each buffer
pub nothing_is_written : (old new bytes : List ℕ) (given o : SouperOutcome) → Wrote old new bytes given o → bytes ≡ [] → given.status ≡ 0 → given.length ≡ length bytes → (o.status ≡ 0) × (o.length ≡ 0)
nothing_is_written old new bytes given o (fits, lacks) none is_given long =
    let room : length bytes ≤ length old = rw none (omega arith) in
    let e = (fits room).0 in
    (ap (λ (o : SouperOutcome). o.status) e ∙ is_given, ap (λ (o : SouperOutcome). o.length) e ∙ (long ∙ ap length none))
