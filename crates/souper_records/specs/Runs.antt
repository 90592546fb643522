-- Definitions. What each status of a run over a stream says of the stream and of the writers.
use Rattle.std.specs.Prelude.{◌≡◌, ◌⊎◌, ℕ, zero, suc, Bool, true, false, if◌then◌else◌, List, Option, Result, Ok, Err, codes}
use Rattle.std.specs.declared.io.Error.{Error}
use Rattle.std.specs.IoError.{error_kind}
use Rattle.souper_records.specs.Prelude.{Item, Stream, IsGiven, IsGivenNothing}
use Rattle.std.specs.declared.io.ErrorKind.TheVariants.{BrokenPipe}
use Rattle.souper_records.specs.declared.layout.Layout.{Layout}
use Rattle.souper_records.specs.declared.layout.Summary.{Summary}
use Rattle.souper_records.specs.declared.seen.Seen.{Seen}
use Rattle.souper_records.specs.declared.stop.ReadFault.{ReadFault}
use Rattle.souper_records.specs.declared.stop.Stop.{Stop}
use Rattle.souper_records.specs.declared.stop.Stop.TheVariants.{Input, Output, Memory}
use Rattle.souper_records.specs.Uniques.{WritesDistinct, WritesSeenDistinct, summary_of, WritesSummaryBegun}
use Rattle.souper_records.specs.Outcomes.{InputStream, Outcome, refusals_of, AreReported, AreReportedThen, WritesParts, IsBegun, OfItems, WritesRecords}
use Rattle.souper_records.specs.Reports.{IsMemoryLine, IsFaultLine, IsReadFaultLine, ReportedMemory, ReportedFault, ReportedReadFault}

-- a fact for each of the four statuses; 141 is the status of a program that SIGPIPE ended, as a shell shows it
abbrev pub OnStatus : ℕ → Type 0 → Type 0 → Type 0 → Type 0 → Type 0
OnStatus zero done refused stopped unread = done
OnStatus (suc zero) done refused stopped unread = refused
OnStatus (suc (suc zero)) done refused stopped unread = stopped
OnStatus status done refused stopped unread = (status ≡ 141) × unread

-- how a fault of the output is named
abbrev pub output_name : List ℕ
output_name = codes "write error"

-- the status after a fault of the output: nothing is reported of a pipe that nobody reads
abbrev pub EndsWithFault : Error → Stream → ℕ → Type 0
EndsWithFault fault err status = ((error_kind fault ≡ BrokenPipe) × (status ≡ 141) × IsGivenNothing err)
    ⊎ (¬ (error_kind fault ≡ BrokenPipe) × (status ≡ 2) × ReportedFault output_name err)

-- the output was flushed, and the status is the one that was given, or it has failed
abbrev pub IsOutputEnd : ℕ → Stream → Stream → ℕ → Type 0
IsOutputEnd given out err status = ((status ≡ given) × IsGivenNothing out × IsGivenNothing err)
    ⊎ ((out.failed ≡ true) × ((fault : Error) × EndsWithFault fault err status))

-- All parts were written, and perhaps some were refused: the output was flushed, or has failed. Or why not all were written was reported.
abbrev pub IsPartsEnd : List ℕ → Result Bool Stop → Stream → Stream → ℕ → Type 0
IsPartsEnd name (Ok refused) out err status = IsOutputEnd (if refused then 1 else 0) out err status
IsPartsEnd name (Err (Input fault)) out err status = IsGivenNothing out × (status ≡ 2) × ReportedReadFault name err fault
IsPartsEnd name (Err (Output fault)) out err status = IsGivenNothing out × EndsWithFault fault err status
IsPartsEnd name (Err Memory) out err status = IsGivenNothing out × (status ≡ 2) × ReportedMemory err

-- Why a run stopped with status 2, and the line that was reported last. Bytes are not UTF-8, a read failed or memory ran out, and `known`
-- holds of the output; or the output has failed, and is no pipe that nobody reads.
abbrev pub HasStopped : List ℕ → Type 0 → Stream → ((List ℕ → Type 0) → Type 0) → Type 0
HasStopped name known out reported = (known × (((fault : ReadFault) × reported (IsReadFaultLine fault name)) ⊎ reported IsMemoryLine))
    ⊎ ((out.failed ≡ true) × ((fault : Error) × ¬ (error_kind fault ≡ BrokenPipe)) × reported (IsFaultLine output_name))

-- What the status of a run over a stream says: 0, no part is refused, and nothing was reported; 1, a part is refused; 2, the run has
-- stopped after some parts, and that was reported after their refusals: unless the output has failed, their outcomes were written; 141, the
-- output is a pipe that nobody reads, and the refusals so far were reported.
abbrev pub IsRun : InputStream → Option (List ℕ) → (List Outcome → Type 0) → (List Outcome → Type 0) → Stream → Stream → ℕ → Type 0
IsRun r after written known out err status = OnStatus status
    (WritesParts r after written err false × IsGivenNothing err)
    (WritesParts r after written err true)
    ((os : List Outcome) × IsBegun r os × HasStopped r.name (known os) out (AreReportedThen r.name err (refusals_of os)))
    ((os : List Outcome) × IsBegun r os × (out.failed ≡ true) × AreReported r.name err (refusals_of os))

-- writing the record of each item
abbrev pub IsRecordsRun : Layout → InputStream → Option (List ℕ) → Stream → Stream → ℕ → Type 0
IsRecordsRun l r after out err status = IsRun r after (OfItems (WritesRecords l out)) (OfItems (WritesRecords l out)) out err status

-- writing the records of the distinct items, after earlier ones
abbrev pub IsDistinctRun : Layout → List Item → InputStream → Option (List ℕ) → Stream → Seen → Stream → ℕ → Type 0
IsDistinctRun l earlier r after out seen err status = IsRun r after
    (OfItems (WritesSeenDistinct r.kind l earlier out seen))
    (OfItems (WritesDistinct l earlier out)) out err status

-- What the status of writing the records of the distinct items says: 0, all were written, and nothing was reported; 2, memory ran out
-- after some were written, or the output has failed, and that was reported; 141, the output is a pipe that nobody reads.
abbrev pub IsCountRun : Layout → Summary → List Item → Stream → Stream → ℕ → Type 0
IsCountRun l s items out err status = OnStatus status
    (IsGiven out (summary_of l s items) × IsGivenNothing err)
    ⊥
    ((WritesSummaryBegun l s items out × ReportedMemory err) ⊎ ((out.failed ≡ true) × ReportedFault output_name err))
    ((out.failed ≡ true) × IsGivenNothing err)
