-- What an error of the parser makes of a run, and what a run says if the reader's bytes are known.
use Rattle.std.proofs.Common.{◌≡◌, ◌≤◌, ℕ, List, [], ◌∷◌, ◌++◌, Option, zero, suc, None, Some, IfSome, ◌⊎◌, inl, inr, length, refl, sym, ap, ◌∙◌, subst, append-nil}
use Rattle.std.specs.Str.{IsUtf8}
use Rattle.std.specs.Io.KnownBytes.{Consumes, IsAtEnd}
use Rattle.souper_graph.specs.Syntax.Spelling.{ItemType, SpellsNone}
use Rattle.souper_errors.specs.Errors.{kind_of, offset_of, HasLocation, ShowsPlace, OnKind}
use Rattle.souper_ir.specs.Answers.{IsStrError}
use Rattle.souper_errors.specs.declared.error.ParseError.{ParseError}
use Rattle.souper_errors.specs.declared.error.ParseErrorKind.{ParseErrorKind}
use Rattle.souper_errors.specs.declared.error.ParseErrorKind.TheVariants.{Io, Parse, Memory}
use Rattle.souper_watched.specs.Streams.{Stream, IsGiven, IsGivenNothing, Reported}
use Rattle.souper_format.specs.Reporting.{IsDisplayLine, ReportedOutOfMemory, ReportedIoError, StoppedByMemory, ErrorReported}
use Rattle.souper_format.specs.Runs.{ReadAll, Formats, ReportedParseError, OnFmtStatus, IsFormatRun, IsKnownRun}

-- a parse error at an offset of the source, as the parser returns it
abbrev IsRefusal : ItemType → Option (List ℕ) → List ℕ → ParseError → Type 0
IsRefusal k file source e = (offset : ℕ) × (offset_of e ≡ Some offset) × (offset ≤ length source) × SpellsNone k source
    × ShowsPlace file source offset e × HasLocation source e

reported_refusal : (k : ItemType) (file : Option (List ℕ)) (source : List ℕ) (err : Stream) (e : ParseError)
    → IsRefusal k file source e → Reported err (IsDisplayLine e) → ReportedParseError file source err
reported_refusal k file source err e (offset, at, within, none, p, located) reported works =
    let (line, (bytes, are_shown, is_line), given) = reported works in
    let same = subst (λ o. IfSome o (λ s. bytes ≡ s)) p.shown_is are_shown in
    (offset, _, within, (p.line, p.column, (p.message, p.text, p.is_place, refl)), subst (IsGiven err) (is_line ∙ ap (λ (s : List ℕ). s ++ 10 ∷ []) same) given)

-- other facts for the statuses
pub status_mapped : (status : ℕ) (A B C P Q R : Type 0) → (A → P) → (B → Q) → (C → R) → OnFmtStatus status A B C → OnFmtStatus status P Q R
status_mapped zero A B C P Q R f g h is = f is
status_mapped (suc zero) A B C P Q R f g h is = g is
status_mapped (suc (suc zero)) A B C P Q R f g h is = absurd is
status_mapped (suc (suc (suc zero))) A B C P Q R f g h is = h is
status_mapped (suc (suc (suc (suc n)))) A B C P Q R f g h is = absurd is

-- the error of a text was reported
pub of_text : (k : ItemType) (file : Option (List ℕ)) (source : List ℕ) (err : Stream) (e : ParseError) (status : ℕ)
    → IsStrError k file source e → ErrorReported err status e
    → OnFmtStatus status ⊥ (SpellsNone k source × ReportedParseError file source err) (ReportedOutOfMemory err)
of_text k file source err e status fault reported = under (kind_of e) fault reported
  where
    under : (kind : ParseErrorKind) → OnKind kind ⊥ (IsRefusal k file source e) (Unit {0})
        → OnKind kind ((status ≡ 3) × ReportedIoError err) (((status ≡ 1) × Reported err (IsDisplayLine e)) ⊎ StoppedByMemory err status) (StoppedByMemory err status)
        → OnFmtStatus status ⊥ (SpellsNone k source × ReportedParseError file source err) (ReportedOutOfMemory err)
    under Io fault reported = absurd fault
    under Parse refusal (inl (one, line)) = rw one (refusal.3, reported_refusal k file source err e refusal line)
    under Parse refusal (inr (three, memory)) = rw three memory
    under Memory fault (three, memory) = rw three memory

-- an error that is reported gives one of the statuses
pub status_of_error : (k : ItemType) (input out err : Stream) (source : List ℕ) (e : ParseError) (status : ℕ)
    → ReadAll input source → IsUtf8 source → IsGivenNothing out → IsStrError k None source e → ErrorReported err status e
    → IsFormatRun k input out err status
status_of_error k input out err source e status read text nothing fault reported =
    status_mapped status _ _ _ _ _ _ (λ none. absurd none) (λ is. ((source, read, text, is.0, is.1), nothing)) (λ memory. (inr memory, λ works. nothing)) (of_text k None source err e status fault reported)

-- if the reader's bytes are known, what holds of all that was read holds of them
of_known : (P : List ℕ → Type 0) (before after : Option (List ℕ)) (source : List ℕ)
    → Consumes before after source → IsAtEnd after → P source → IfSome before P
of_known P None after source read ended held = tt
of_known P (Some bytes) None source read ended held = absurd read
of_known P (Some bytes) (Some rest) source read ended held =
    subst P (sym (read ∙ ap (λ (l : List ℕ). source ++ l) ended ∙ append-nil source)) held

of_any : (before : Option (List ℕ)) → IfSome before (λ source. Unit {0})
of_any None = tt
of_any (Some bytes) = tt

pub known_of_run : (k : ItemType) (input out err : Stream) (status : ℕ)
    → IsFormatRun k input out err status → IsKnownRun k input.before out status
known_of_run k input out err zero run =
    let (source, read, written) = run.0 in
    of_known (λ source. Formats k source out) input.before input.after source read.2 read.3 written
known_of_run k input out err (suc zero) run =
    let (source, read, text, none, reported) = run.0 in
    of_known (λ source. IsUtf8 source × SpellsNone k source) input.before input.after source read.2 read.3 (text, none)
known_of_run k input out err (suc (suc zero)) run = absurd run
known_of_run k input out err (suc (suc (suc zero))) run = of_any input.before
known_of_run k input out err (suc (suc (suc (suc n)))) run = absurd run
