-- Definitions. What each status of a run that fills a store says of the store, of the stream and of the reports.
use Rattle.std.specs.Prelude.{◌≡◌, ◌⊎◌, ℕ, ◌+◌, ◌^◌, ◌<◌, ◌≤◌, Bool, false, List, ◌++◌, length, Option, Some}
use Rattle.std.specs.Io.KnownBytes.{Consumes}
use Rattle.souper_graph.specs.Values.{Item}
use Rattle.souper_graph.specs.Syntax.Spelling.{replacement, TextSpells}
use Rattle.souper_errors.specs.declared.error.ParseError.{ParseError}
use Rattle.souper_errors.specs.Errors.{HasLocation, IsRefusalAt, at_end_of}
use Rattle.souper_ir.specs.Stopping.{TextStops}
use Rattle.souper_stream.specs.Parts.{EndsAfter}
use Rattle.souper_stream.specs.Reading.{AreAll, NeverSpells}
use Rattle.souper_watched.specs.Streams.{Stream, IsGiven, IsGivenNothing, Reported}
use Rattle.souper_lookup.specs.declared.store.Store.{Store}
use Rattle.souper_lookup.specs.Stored.{Entry, AreAdded, Stores}
use Rattle.souper_records.specs.Canonical.{IsWhole}
use Rattle.souper_records.specs.declared.stop.ReadFault.{ReadFault}
use Rattle.souper_records.specs.Reports.{AreRefusalLines, hint_line, ReportedReadFault, ReportedMemory}
use Rattle.souper_records.specs.Runs.{OnStatus}

-- the whole stream spells replacements, and they were added to a store that had these entries
pub record IsFilled (entries : List Entry) (before after : Option (List ℕ)) (store : Store) : Type 0 where
  pub read : List ℕ
  pub whole : IsWhole before after read
  pub items : List Item
  pub spelled : TextSpells replacement read items
  pub now : List Entry
  pub added : AreAdded items entries now
  pub stores : Stores now store

-- the line of the refusal of a stream of this name, and then the line of a hint, if there is one
abbrev pub AreUnfilledLines : Bool → List ℕ → ParseError → List ℕ → Type 0
AreUnfilledLines last name e lines = (hint : Option (List ℕ)) × AreRefusalLines last name (record { error = e; hint = hint }) lines

-- unless the writer has failed, the line of a hint was written to it, if there is one
abbrev pub ReportedHint : Stream → Type 0
ReportedHint err = err.failed ≡ false → (hint : Option (List ℕ)) × IsGiven err (hint_line hint)

-- Whatever follows the text read, the stream of this name spells no replacements. The refusal has and shows its place in that text, says
-- where it is at fault and whether the segment ended there, and was reported, with a hint or without. Whether the stream ends with the
-- refused segment is given.
pub record IsUnfilled (name : List ℕ) (before after : Option (List ℕ)) (err : Stream) : Type 0 where
  pub read : List ℕ
  pub consumed : Consumes before after read
  pub never : NeverSpells replacement (AreAll before read) read
  pub error : ParseError
  pub placed : length read + 1 < 2 ^ 64 → (offset : ℕ) × (offset ≤ length read) × IsRefusalAt (Some name) read offset error
  pub located : length read + 1 < 2 ^ 64 → (front : List ℕ) × (rest : List ℕ) × (read ≡ front ++ rest) × HasLocation front error
  pub stops : (done : List ℕ) × (segment : List ℕ) × (rest : List ℕ) × (read ≡ (done ++ segment) ++ rest) × TextStops replacement segment (at_end_of error)
  pub text : List ℕ
  pub last : Bool
  pub ends : EndsAfter before after text last
  pub reported : Reported err (AreUnfilledLines last name error)

-- What the status of adding the replacements of a stream to a store says: 0, they were added, and nothing was reported; 1, the stream is
-- refused, and the refusal was reported; 2, a read failed or memory ran out, and the failure was reported.
abbrev pub IsFillRun : List Entry → List ℕ → Option (List ℕ) → Option (List ℕ) → Store → Stream → ℕ → Type 0
IsFillRun entries name before after store err status = OnStatus status
    (IsFilled entries before after store × IsGivenNothing err)
    (IsUnfilled name before after err)
    (((fault : ReadFault) × ReportedReadFault name err fault) ⊎ ReportedMemory err)
    ⊥
