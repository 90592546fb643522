-- Definitions. What each status of a comparison of two files says of the two reads and of the writers.
use Rattle.std.specs.Prelude.{◌≡◌, ℕ, List, ◌++◌, true, false, codes, string_bytes, Some, Result, Ok, Err, String, ◌⊎◌}
use Rattle.std.specs.List.{AllZip}
use Rattle.std.specs.declared.alloc.Global.{Global}
use Rattle.std.specs.declared.io.Error.{Error}
use Rattle.souper_graph.specs.Values.{Item}
use Rattle.souper_graph.specs.Sameness.{SameGraph}
use Rattle.souper_graph.specs.Syntax.Spelling.{ItemType, TextSpells, SpellsNone}
use Rattle.souper_ir.specs.Answers.{IsStrError}
use Rattle.souper_ir.specs.Files.{TellsFault}
use Rattle.souper_errors.specs.declared.error.ParseError.{ParseError}
use Rattle.souper_watched.specs.Streams.{Stream, IsGiven, IsGivenNothing}
use Rattle.souper_format.specs.Reporting.{ReportedOutOfMemory, ReportedIoError}
use Rattle.souper_format.specs.Runs.{ReportedParseError, OnFmtStatus}

-- what the read of a file returned: a text or a fault
abbrev pub FileRead : Type 0
FileRead = Result (String Global) Error

-- the read returned a text that spells the items
abbrev pub ReadSpells : ItemType → FileRead → List Item → Type 0
ReadSpells k (Ok source) items = TextSpells k (string_bytes source) items
ReadSpells k (Err fault) items = ⊥

-- the error that a read makes: the parse error of its text, which has that file name, or its fault
abbrev pub ReadError : ItemType → List ℕ → FileRead → ParseError → Type 0
ReadError k path (Ok source) e = IsStrError k (Some path) (string_bytes source) e
ReadError k path (Err fault) e = TellsFault fault e

-- `same` was written if the fact holds, else `different`
abbrev pub Says : Type 0 → Stream → Type 0
Says fact out = (fact × IsGiven out (codes "same" ++ codes "\n")) ⊎ (¬ fact × IsGiven out (codes "different" ++ codes "\n"))

-- what the status of a comparison of two lists says
abbrev pub IsComparison : Type 0 → Stream → Stream → ℕ → Type 0
IsComparison fact out err status = OnFmtStatus status
    (Says fact out × IsGivenNothing err)
    ⊥
    ((((out.failed ≡ true) × ReportedIoError err) ⊎ ReportedOutOfMemory err) × (out.failed ≡ false → IsGivenNothing out))

-- the read returned a text that spells no items, and its parse error was reported, which has that file name; or it failed, or memory ran
-- out, and that was reported; nothing was written
abbrev pub StoppedAt : ItemType → List ℕ → FileRead → Stream → Stream → ℕ → Type 0
StoppedAt k path (Ok source) out err status = IsGivenNothing out
    × OnFmtStatus status ⊥ (SpellsNone k (string_bytes source) × ReportedParseError (Some path) (string_bytes source) err) (ReportedOutOfMemory err)
StoppedAt k path (Err fault) out err status = IsGivenNothing out × (status ≡ 3) × (ReportedIoError err ⊎ ReportedOutOfMemory err)

-- what the status says of the second file, given the items of the first: it was read, and with it the run stopped, or its text spells
-- items, and whether both lists are pairwise the same graphs was written
abbrev pub IsSecondRun : ItemType → (List ℕ → FileRead → Type 0) → List Item → List ℕ → Stream → Stream → ℕ → Type 0
IsSecondRun k gives xs b out err status = (second : FileRead) × gives b second × (StoppedAt k b second out err status
    ⊎ ((ys : List Item) × ReadSpells k second ys × IsComparison (AllZip SameGraph xs ys) out err status))

-- what the status says if `gives` is what the read of a path may return: the first file was read, and with it the run stopped, or its text
-- spells items and the second was read too
abbrev pub IsFilesRun : ItemType → (List ℕ → FileRead → Type 0) → List ℕ → List ℕ → Stream → Stream → ℕ → Type 0
IsFilesRun k gives a b out err status = (first : FileRead) × gives a first × (StoppedAt k a first out err status
    ⊎ ((xs : List Item) × ReadSpells k first xs × IsSecondRun k gives xs b out err status))
