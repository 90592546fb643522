-- Definitions. What each status of a run says whose items are written with their widths.
use Rattle.std.specs.Prelude.{◌≡◌, ℕ, true, false, List, ◌++◌, Option}
use Rattle.souper_graph.specs.Values.{Item}
use Rattle.souper_watched.specs.Streams.{Stream, IsGiven, IsGivenNothing}
use Rattle.souper_typed.specs.declared.form.Form.{Form}
use Rattle.souper_records.specs.declared.seen.Seen.{Seen}
use Rattle.souper_records.specs.Uniques.{WritesDistinct, WritesSeenDistinct}
use Rattle.souper_records.specs.Outcomes.{InputStream, Outcome, OfItems, WritesRecords}
use Rattle.souper_records.specs.Runs.{OnStatus, HasStopped}
use Rattle.souper_typing.specs.declared.layout.TypedLayout.{TypedLayout}
use Rattle.souper_typing.specs.Parts.{Rowed, typed_outcomes, ArePartLines, ReportedParts}
use Rattle.souper_typing.specs.Results.{TypesParts, TypesBegun}

-- unless the writer has failed, the lines of the errors of these parts were written to it, and then a line with the property P
abbrev pub ReportedPartsThen : List ℕ → Stream → List Rowed → (List ℕ → Type 0) → Type 0
ReportedPartsThen name err parts P = err.failed ≡ false → (text : List ℕ) × (line : List ℕ) × ArePartLines name parts text × P line × IsGiven err (text ++ line)

-- 0: no part is rejected, each item has widths, and nothing was reported. 1: a part is rejected, or an item has none. 2: the run has stopped
-- after some parts, which was reported after their errors; unless the output has failed, their items were written. 141: the output is a
-- pipe that nobody reads.
abbrev pub IsTypingRun : InputStream → Form → Option (List ℕ) → (List Outcome → Type 0) → (List Outcome → Type 0) → Stream → Stream → ℕ → Type 0
IsTypingRun r f after written known out err status = OnStatus status
    (TypesParts r f after written err false × IsGivenNothing err)
    (TypesParts r f after written err true)
    ((parts : List Rowed) × TypesBegun r f parts × HasStopped r.name (known (typed_outcomes parts)) out (ReportedPartsThen r.name err parts))
    ((parts : List Rowed) × TypesBegun r f parts × (out.failed ≡ true) × ReportedParts r.name err parts)

-- writing the record of each item
abbrev pub IsTypedRun : TypedLayout → InputStream → Option (List ℕ) → Stream → Stream → ℕ → Type 0
IsTypedRun l r after out err status = IsTypingRun r l.form after (OfItems (WritesRecords l.layout out)) (OfItems (WritesRecords l.layout out)) out err status

-- writing the records of the distinct items, after earlier ones
abbrev pub IsTypedUniqRun : TypedLayout → List Item → InputStream → Option (List ℕ) → Stream → Seen → Stream → ℕ → Type 0
IsTypedUniqRun l earlier r after out seen err status = IsTypingRun r l.form after
    (OfItems (WritesSeenDistinct r.kind l.layout earlier out seen))
    (OfItems (WritesDistinct l.layout earlier out)) out err status
