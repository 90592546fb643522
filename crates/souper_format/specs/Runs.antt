-- Definitions. What each status of a run says of the reader, of the writers and of what was read.
use Rattle.std.specs.Prelude.{◌≡◌, ℕ, zero, suc, ◌≤◌, List, ◌++◌, true, false, codes, length, Option, None, IfSome, ◌⊎◌}
use Rattle.std.specs.Str.{IsUtf8}
use Rattle.std.specs.Io.KnownBytes.{Consumes, IsAtEnd}
use Rattle.souper_graph.specs.Syntax.Spelling.{ItemType, SpellsNone}
use Rattle.souper_errors.specs.Places.{IsRefusalText}
use Rattle.souper_format.specs.Formatted.{IsFormatted}
use Rattle.souper_watched.specs.Streams.{Stream, IsGiven, IsGivenNothing}
use Rattle.souper_format.specs.declared.run.ReadFault.{ReadFault}
use Rattle.souper_format.specs.declared.run.ReadFault.TheVariants.{Failed, NotText, OutOfMemory}
use Rattle.souper_format.specs.Reporting.{ReportedOutOfMemory, ReportedIoError}

-- the reader has not failed and has ended, and the bytes are all that was read of it
abbrev pub ReadAll : Stream → List ℕ → Type 0
ReadAll input bytes = (input.failed ≡ false) × (input.ended ≡ true) × Consumes input.before input.after bytes × IsAtEnd input.after

-- all that was read is not UTF-8
abbrev pub ReadNoText : Stream → Type 0
ReadNoText input = (bytes : List ℕ) × ReadAll input bytes × ¬ (IsUtf8 bytes)

-- what each fault says of the reader
abbrev pub FaultMeans : Stream → ReadFault → Type 0
FaultMeans input (Failed e) = input.failed ≡ true
FaultMeans input NotText = ReadNoText input
FaultMeans input OutOfMemory = Unit {0}

-- the formatted source was written to `out`, and nothing else
abbrev pub Formats : ItemType → List ℕ → Stream → Type 0
Formats k source out = (text : List ℕ) × IsFormatted k source text × IsGiven out text

-- all that was read spells items, their texts were written, and nothing was reported
abbrev pub Finished : ItemType → Stream → Stream → Stream → Type 0
Finished k input out err = ((source : List ℕ) × ReadAll input source × Formats k source out) × IsGivenNothing err

-- unless the writer has failed, the line of a parse error at an offset of the source, which has that file name, was written
-- to it
abbrev pub ReportedParseError : Option (List ℕ) → List ℕ → Stream → Type 0
ReportedParseError file source err = err.failed ≡ false → (offset : ℕ) × (shown : List ℕ)
    × (offset ≤ length source) × IsRefusalText file source offset shown × IsGiven err (shown ++ codes "\n")

-- all that was read is a text that spells no items, nothing was written, and the parse error was reported
abbrev pub Refused : ItemType → Stream → Stream → Stream → Type 0
Refused k input out err =
    ((source : List ℕ) × ReadAll input source × IsUtf8 source × SpellsNone k source × ReportedParseError None source err)
    × IsGivenNothing out

-- the reader or `out` has failed, or what was read is no text, or memory ran out, and that was reported; nothing was
-- written, unless `out` has failed
abbrev pub Stopped : Stream → Stream → Stream → Type 0
Stopped input out err =
    ((((input.failed ≡ true) ⊎ (out.failed ≡ true) ⊎ ReadNoText input) × ReportedIoError err) ⊎ ReportedOutOfMemory err)
    × (out.failed ≡ false → IsGivenNothing out)

-- a fact for each status, of which there are three
abbrev pub OnFmtStatus : ℕ → Type 0 → Type 0 → Type 0 → Type 0
OnFmtStatus zero done refused stopped = done
OnFmtStatus (suc zero) done refused stopped = refused
OnFmtStatus (suc (suc (suc zero))) done refused stopped = stopped
OnFmtStatus _ done refused stopped = ⊥

-- what the status of a run says
abbrev pub IsFormatRun : ItemType → Stream → Stream → Stream → ℕ → Type 0
IsFormatRun k input out err status = OnFmtStatus status (Finished k input out err) (Refused k input out err) (Stopped input out err)

-- if the reader's bytes are known: what status 0 and status 1 say of them
abbrev pub IsKnownRun : ItemType → Option (List ℕ) → Stream → ℕ → Type 0
IsKnownRun k bytes out status = IfSome bytes (λ source. OnFmtStatus status
    (Formats k source out)
    (IsUtf8 source × SpellsNone k source)
    (Unit {0}))
