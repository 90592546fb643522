-- Definitions. Why a text gives no items, and the outcome that says so.
use Rattle.std.specs.Prelude.{◌≡◌, ℕ, List, [], None, Some, length, string_bytes}
use Rattle.std.specs.Str.{IsUtf8}
use Rattle.souper_errors.specs.Errors.{kind_of, offset_of, line_of, column_of, shown_error}
use Rattle.souper_errors.specs.declared.error.ParseError.{ParseError}
use Rattle.souper_errors.specs.declared.error.ParseErrorKind.TheVariants.{Parse}
use Rattle.souper_code.specs.declared.write.WriteError.{WriteError}
use Rattle.souper_code.specs.declared.write.WriteError.TheVariants.{NoCode, NotWellFormed, OutOfMemory as StopOutOfMemory}
use Rattle.souper_calls.specs.Kinds.{type_of_number, OfType}
use Rattle.souper_calls.specs.Outcomes.{IsRefusedAt}
use Rattle.souper_calls.specs.declared.outcome.SouperOutcome.{SouperOutcome}
use Rattle.souper_calls.specs.declared.inputs.Refusal.{Refusal}
use Rattle.souper_calls.specs.declared.inputs.Failure.{Failure}
use Rattle.souper_calls.specs.declared.inputs.Failure.TheVariants.{NoKind, NotUtf8, OutOfMemory, Refused}

-- the place of the error and the text that it shows
abbrev pub IsRefusalOf : ParseError → Refusal → Type 0
IsRefusalOf e r = (kind_of e ≡ Parse) × (offset_of e ≡ Some r.offset) × (line_of e ≡ Some r.line) × (column_of e ≡ Some r.column)
    × (shown_error e ≡ Some (string_bytes r.shown))

-- what a failure says of an error of a parser of texts
abbrev pub IsFailureOf : ParseError → Failure → Type 0
IsFailureOf e (Refused r) = IsRefusalOf e r
IsFailureOf e OutOfMemory = Unit {0}
IsFailureOf e _ = ⊥

-- what a failure says of the number of the kind and of bytes that are to be text
abbrev pub IsInputFailure : ℕ → List ℕ → Failure → Type 0
IsInputFailure kind source NoKind = type_of_number kind ≡ None
IsInputFailure kind source NotUtf8 = OfType kind (λ k. ¬ (IsUtf8 source))
IsInputFailure kind source _ = ⊥

-- what a failure says of the number of the kind and of the source
abbrev pub IsFailure : ℕ → List ℕ → Failure → Type 0
IsFailure kind source NoKind = type_of_number kind ≡ None
IsFailure kind source NotUtf8 = OfType kind (λ k. ¬ (IsUtf8 source))
IsFailure kind source OutOfMemory = OfType kind (λ k. Unit {0})
IsFailure kind source (Refused r) = IsRefusedAt kind source r.offset r.line r.column (string_bytes r.shown)

-- the outcome for a failure of the input with that index
abbrev pub outcome_of : Failure → ℕ → SouperOutcome
outcome_of NoKind input = record { status = 2; input = 0; length = 0; offset = 0; line = 0; column = 0 }
outcome_of OutOfMemory input = record { status = 3; input = 0; length = 0; offset = 0; line = 0; column = 0 }
outcome_of NotUtf8 input = record { status = 4; input = input; length = 0; offset = 0; line = 0; column = 0 }
outcome_of (Refused r) input =
    record { status = 1; input = input; length = length (string_bytes r.shown); offset = r.offset; line = r.line; column = r.column }

-- the text that a failure shows: of a parse error
abbrev pub shown_of : Failure → List ℕ
shown_of (Refused r) = string_bytes r.shown
shown_of _ = []

-- the outcome for a buffer that lacks room for that many bytes
abbrev pub short_outcome : ℕ → SouperOutcome
short_outcome length = record { status = 5; input = 0; length = length; offset = 0; line = 0; column = 0 }

-- the outcome that says why there are no texts of the items of a code
abbrev pub outcome_of_stop : WriteError → SouperOutcome
outcome_of_stop (NoCode p) = record { status = 7; input = 0; length = p.index; offset = p.offset; line = 0; column = 0 }
outcome_of_stop (NotWellFormed p) = record { status = 8; input = 0; length = p.index; offset = p.offset; line = 0; column = 0 }
outcome_of_stop StopOutOfMemory = record { status = 3; input = 0; length = 0; offset = 0; line = 0; column = 0 }
