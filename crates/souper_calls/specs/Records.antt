-- Definitions. The records of the items that a text spells.
use Rattle.std.specs.Prelude.{◌≡◌, ℕ, ◌/◌, ◌%◌, List, length, nat_eq, if◌then◌else◌}
use Rattle.souper_records.specs.declared.layout.Delimiter.TheVariants.{Newline, Nul}
use Rattle.souper_records.specs.declared.layout.Layout.{Layout}
use Rattle.souper_records.specs.Records.{AreRecordsOf}
use Rattle.souper_calls.specs.Kinds.{OfType}
use Rattle.souper_calls.specs.declared.outcome.SouperOutcome.{SouperOutcome}
use Rattle.souper_calls.specs.Outcomes.{FillsStart}

-- the layout that the lowest three bits of the flags ask for: 1 with the key, 2 renamed, 4 ended by NUL
abbrev pub layout_of : ℕ → Layout
layout_of flags = record {
  delimiter = if nat_eq (flags / 4 % 2) 1 then Nul else Newline;
  key = nat_eq (flags % 2) 1;
  rename = nat_eq (flags / 2 % 2) 1;
}

-- the source spells items of the kind, and the bytes are their records
abbrev pub RecordsTo : ℕ → ℕ → List ℕ → List ℕ → Type 0
RecordsTo flags kind source bytes = OfType kind (λ k. AreRecordsOf (layout_of flags) k source bytes)

-- the records were written to the buffer
abbrev pub WritesRecordsTo : ℕ → ℕ → List ℕ → SouperOutcome → List ℕ → List ℕ → Type 0
WritesRecordsTo flags kind source o old new =
    (bytes : List ℕ) × RecordsTo flags kind source bytes × (o.length ≡ length bytes) × FillsStart old new bytes
