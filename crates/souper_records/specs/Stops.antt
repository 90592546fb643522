-- Definitions. Why the output of a stream was not all written.
use Rattle.std.specs.Prelude.{◌≡◌, Bool, true, Option, None, Some}
use Rattle.std.specs.declared.io.Error.{Error}
use Rattle.souper_stream.specs.declared.faults.NotUtf8.{NotUtf8}
use Rattle.souper_records.specs.declared.stop.ReadFault.TheVariants.{Utf8, Io}
use Rattle.souper_records.specs.declared.stop.Stop.{Stop}
use Rattle.souper_records.specs.declared.stop.Stop.TheVariants.{Input, Output, Memory}

-- Why reading stopped, given the error of the read, if it has one, and the bytes that are not UTF-8, if there are any. Else memory ran out.
abbrev pub input_stop : Option Error → Option NotUtf8 → Stop
input_stop None bytes = Memory
input_stop (Some fault) None = Input (Io fault)
input_stop (Some fault) (Some bytes) = Input (Utf8 bytes)

-- the input is not the cause
abbrev pub IsNoInput : Stop → Type 0
IsNoInput (Input fault) = ⊥
IsNoInput (Output fault) = Unit {0}
IsNoInput Memory = Unit {0}

-- what holds unless the output is the cause; if it is, it has failed
abbrev pub UnlessOutput : Stop → Bool → Type 0 → Type 0
UnlessOutput (Input fault) failed P = P
UnlessOutput (Output fault) failed P = failed ≡ true
UnlessOutput Memory failed P = P
