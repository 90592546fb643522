-- Definitions. Why the records of the distinct items were not all written.
use Rattle.std.specs.Prelude.{◌≡◌, Bool, true}
use Rattle.souper_records.specs.declared.counts.Unwritten.{Unwritten}
use Rattle.souper_records.specs.declared.counts.Unwritten.TheVariants.{Output, Memory}

-- what holds where memory ran out; if a write failed, the output has
abbrev pub UnlessFailed : Unwritten → Bool → Type 0 → Type 0
UnlessFailed (Output fault) failed P = failed ≡ true
UnlessFailed Memory failed P = P
