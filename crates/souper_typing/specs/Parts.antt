-- Definitions. The parts of a stream with the rows of their items, and what is reported of them.
use Rattle.std.specs.Prelude.{◌≡◌, ℕ, Bool, false, ◌||◌, List, [], ◌∷◌, ◌++◌, map, flat_map, codes, decimal, is_some, if◌then◌else◌, Option, Some, None}
use Rattle.std.specs.List.{zip, list_any, AllByRecursion}
use Rattle.souper_watched.specs.Streams.{Stream, IsGiven, IsGivenNothing}
use Rattle.souper_stream.specs.declared.starts.Start.{Start}
use Rattle.souper_typed.specs.declared.form.Form.{Form}
use Rattle.souper_records.specs.Outcomes.{Outcome, refusals_of, AreErrorLines}
use Rattle.souper_typing.specs.Rows.{Row, typed_of, flaw_lines, any_flawed, IsTaken}

-- the outcome of a part, and the rows of its items
pub record Rowed : Type 0 where
  pub outcome : Outcome
  pub rows : List Row

abbrev pub outcomes_of : List Rowed → List Outcome
outcomes_of parts = map (λ (p : Rowed). p.outcome) parts

-- the outcome with the written items in the place of the items
abbrev pub typed_outcome : Rowed → Outcome
typed_outcome p = record { part = p.outcome.part; last = p.outcome.last; starts = p.outcome.starts; items = typed_of p.rows; refusal = p.outcome.refusal }

abbrev pub typed_outcomes : List Rowed → List Outcome
typed_outcomes parts = map typed_outcome parts

abbrev pub AreTaken : Bool → Form → List Rowed → Type 0
AreTaken recover f parts = AllByRecursion (λ (p : Rowed). IsTaken recover f p.outcome.items p.rows) parts

abbrev pub has_flaw : Rowed → Bool
has_flaw p = any_flawed p.rows

-- an item has no widths
abbrev pub any_untyped : List Rowed → Bool
any_untyped parts = list_any has_flaw parts

-- the last part alone has items without widths
pub record EndsUntyped (parts : List Rowed) : Type 0 where
  pub front : List Rowed
  pub last : Rowed
  pub whole : parts ≡ front ++ last ∷ []
  pub none : any_untyped front ≡ false

-- the lines of an error, after the name of the stream and the number of the line on which the item begins
abbrev pub flaw_report : List ℕ → Start → Option (List ℕ) → List ℕ
flaw_report name start None = []
flaw_report name start (Some lines) = name ++ (codes ":" ++ (decimal start.line ++ (codes ": " ++ lines)))

abbrev pub flaw_reports : List ℕ → List Start → List (Option (List ℕ)) → List ℕ
flaw_reports name starts flaws = flat_map (λ (p : Start × Option (List ℕ)). flaw_report name p.0 p.1) (zip starts flaws)

-- the same, if there is one
abbrev pub report_if : Bool → List ℕ → List Start → List (Option (List ℕ)) → Option (List ℕ)
report_if any name starts flaws = if any then Some (flaw_reports name starts flaws) else None

-- what is reported of the items of a part, if one has no widths
abbrev pub part_report : List ℕ → Rowed → Option (List ℕ)
part_report name p = report_if (any_flawed p.rows) name p.outcome.starts (map flaw_lines p.rows)

abbrev pub text_or_none : Option (List ℕ) → List ℕ
text_or_none None = []
text_or_none (Some text) = text

-- of each part the lines of its parse error, if it is rejected, and then those of its items without widths
abbrev pub ArePartLines : List ℕ → List Rowed → List ℕ → Type 0
ArePartLines name [] text = text ≡ []
ArePartLines name (p ∷ ps) text = (lines : List ℕ) × (rest : List ℕ) × (text ≡ lines ++ (text_or_none (part_report name p) ++ rest)) × AreErrorLines name (refusals_of (p.outcome ∷ [])) lines × ArePartLines name ps rest

abbrev pub is_bad : Rowed → Bool
is_bad p = is_some p.outcome.refusal || has_flaw p

-- unless the writer has failed, these lines were written to it; without an error, nothing was
pub record ReportedParts (name : List ℕ) (err : Stream) (parts : List Rowed) : Type 0 where
  pub none : list_any is_bad parts ≡ false → IsGivenNothing err
  pub some : err.failed ≡ false → (text : List ℕ) × ArePartLines name parts text × IsGiven err text

-- nothing was written to the writer; or this text was, unless it has failed
abbrev pub ReportedText : Stream → Option (List ℕ) → Type 0
ReportedText err None = IsGivenNothing err
ReportedText err (Some text) = err.failed ≡ false → IsGiven err text
