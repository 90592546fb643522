-- Definitions. The lines that report an error.
use Rattle.std.specs.Prelude.{◌≡◌, ℕ, List, ◌++◌, false, codes, ◌⊎◌}
use Rattle.souper_errors.specs.Errors.{kind_of, shown_error, OnKind}
use Rattle.souper_errors.specs.declared.error.ParseError.{ParseError}
use Rattle.souper_watched.specs.Streams.{Stream, IsGiven, IsLineOf, Reported}

-- the line for out of memory
abbrev pub memory_line : List ℕ
memory_line = codes "out of memory" ++ codes "\n"

-- unless the writer has failed, the line for out of memory was written to it
abbrev pub ReportedOutOfMemory : Stream → Type 0
ReportedOutOfMemory err = err.failed ≡ false → IsGiven err memory_line

-- the line of an I/O error
abbrev pub fault_line : List ℕ → List ℕ
fault_line shown = codes "IO error: " ++ shown ++ codes "\n"

-- unless the writer has failed, the line of an I/O error, or of out of memory, was written to it
abbrev pub ReportedIoError : Stream → Type 0
ReportedIoError err = err.failed ≡ false → ((shown : List ℕ) × IsGiven err (fault_line shown)) ⊎ IsGiven err memory_line

-- the line of the error's text
abbrev pub IsDisplayLine : ParseError → List ℕ → Type 0
IsDisplayLine e line = IsLineOf (shown_error e) line

-- the status is 3, and out of memory was reported
abbrev pub StoppedByMemory : Stream → ℕ → Type 0
StoppedByMemory err status = (status ≡ 3) × ReportedOutOfMemory err

-- the status of an error and what was reported of it: memory may run out for its line
abbrev pub ErrorReported : Stream → ℕ → ParseError → Type 0
ErrorReported err status e = OnKind (kind_of e)
    ((status ≡ 3) × ReportedIoError err)
    (((status ≡ 1) × Reported err (IsDisplayLine e)) ⊎ StoppedByMemory err status)
    (StoppedByMemory err status)
