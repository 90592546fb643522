-- Definitions. Canonical texts, and what each status of a run that looks for them says.
use Rattle.std.specs.Prelude.{◌≡◌, ◌⊎◌, ℕ, ◌+◌, ◌^◌, ◌<◌, List, ◌++◌, length, Option, true, false, codes, decimal}
use Rattle.std.specs.Io.KnownBytes.{Consumes}
use Rattle.souper_records.specs.Prelude.{Item, ItemType, TextSpells, AreAll, Stream, IsGiven, IsGivenNothing}
use Rattle.souper_graph.specs.Text.{texts_of}
use Rattle.souper_diff.specs.Comparisons.{DifferOnLine}
use Rattle.souper_errors.specs.declared.kind.Kind.{Kind}
use Rattle.souper_records.specs.Outcomes.{WritesParts}
use Rattle.souper_records.specs.declared.stop.ReadFault.{ReadFault}
use Rattle.souper_records.specs.Reports.{ReportedMemory, ReportedReadFault}
use Rattle.souper_records.specs.Runs.{OnStatus}

-- the text is the canonical texts of the items that it spells, a newline after each
abbrev pub IsCanonical : ItemType → List ℕ → Type 0
IsCanonical k text = (items : List Item) × TextSpells k text items × (text ≡ texts_of items)

-- the line that says on which line a text is not canonical
abbrev pub other_line : List ℕ → ℕ → List ℕ
other_line name line = name ++ (codes ":" ++ (decimal line ++ codes ": not canonical\n"))

-- the status is 1, and it was reported on which line the text of this name is not canonical; or it is 2, and out of memory was
abbrev pub ReportedOtherLine : List ℕ → ℕ → Stream → ℕ → Type 0
ReportedOtherLine name line err status = ((status ≡ 1) × (err.failed ≡ false → IsGiven err (other_line name line))) ⊎ ((status ≡ 2) × ReportedMemory err)

-- these bytes are all of the stream
abbrev pub IsWhole : Option (List ℕ) → Option (List ℕ) → List ℕ → Type 0
IsWhole before after read = Consumes before after read × AreAll before read

-- the text spells items, and is not canonical: on which line it differs first was reported, if numbers of 64 bits can count the lines
abbrev pub ReportedOther : ItemType → List ℕ → List ℕ → Stream → Type 0
ReportedOther k name read err = (line : ℕ) × (length read + 1 < 2 ^ 64 → (items : List Item) × TextSpells k read items × DifferOnLine read (texts_of items) line) × (err.failed ≡ false → IsGiven err (other_line name line))

-- The stream is refused: it begins with parts of which the last alone spells no items, and the refusal of that was reported. Whatever
-- follows the text read, the stream spells no items.
abbrev pub ReportedRefusal : ItemType → List ℕ → Option Kind → Option (List ℕ) → Option (List ℕ) → Stream → Type 0
ReportedRefusal k name hints before after err = WritesParts (record { kind = k; name = name; recover = false; hints = hints; before = before }) after (λ os. Unit {0}) err true

-- What the status says: 0, the whole stream is canonical, and nothing was reported; 1, it is not, and that was reported, or it is refused;
-- 2, something failed, and that was reported.
abbrev pub IsCheckRun : ItemType → List ℕ → Option Kind → Option (List ℕ) → Option (List ℕ) → Stream → ℕ → Type 0
IsCheckRun k name hints before after err status = OnStatus status
    ((read : List ℕ) × IsWhole before after read × IsCanonical k read × IsGivenNothing err)
    (((read : List ℕ) × IsWhole before after read × (IsCanonical k read → ⊥) × ReportedOther k name read err) ⊎ ReportedRefusal k name hints before after err)
    (((fault : ReadFault) × ReportedReadFault name err fault) ⊎ ReportedMemory err)
    ⊥
