-- Definitions. What a run of the program says, by the command that its arguments name.
use Rattle.std.specs.Prelude.{◌≡◌, ℕ, List, ◌++◌, false, codes, string_bytes, Option, None, Some}
use Rattle.souper_format.specs.declared.command.Command.{Command}
use Rattle.souper_format.specs.declared.command.Command.TheVariants.{Format, Same}
use Rattle.souper_ir.specs.Kinds.{item_type_of}
use Rattle.souper_watched.specs.Streams.{Stream, IsGiven, IsGivenNothing}
use Rattle.souper_format.specs.Runs.{IsFormatRun, IsKnownRun}
use Rattle.souper_format.specs.SameRuns.{FileRead, IsFilesRun}

-- how the program is used
abbrev pub usage_text : List ℕ
usage_text =
    codes "usage: souper_fmt lhs|rhs|rep" ++ codes "\n" ++ codes "       souper_fmt same lhs|rhs|rep PATH PATH" ++ codes "\n"

-- unless the writer has failed, the usage text was written to it
abbrev pub ReportedUsage : Stream → Type 0
ReportedUsage err = err.failed ≡ false → IsGiven err usage_text

-- No command: the usage text, status 2, and nothing was read. A kind: a run of the formatter over the reader. `same`, a kind and two
-- paths: a run over the two files, where gives says what the read of a path may return.
abbrev pub IsCommandRun : (List ℕ → FileRead → Type 0) → Option Command → Stream → Stream → Stream → ℕ → Type 0
IsCommandRun gives None input out err status = (status ≡ 2) × ReportedUsage err × (IsGivenNothing out × (input.after ≡ input.before))
IsCommandRun gives (Some (Format kind)) input out err status = IsFormatRun (item_type_of kind) input out err status
IsCommandRun gives (Some (Same kind a b)) input out err status =
    IsFilesRun (item_type_of kind) gives (string_bytes a) (string_bytes b) out err status × (input.after ≡ input.before)

-- if the command is a kind and the reader's bytes are known: what status 0 and status 1 say of them
abbrev pub IsKnownCommandRun : Option Command → Option (List ℕ) → Stream → ℕ → Type 0
IsKnownCommandRun (Some (Format kind)) bytes out status = IsKnownRun (item_type_of kind) bytes out status
IsKnownCommandRun _ bytes out status = Unit {0}
