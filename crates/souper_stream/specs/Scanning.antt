-- Definitions. How far a text was scanned for its first cut point.
use Rattle.std.specs.Prelude.{◌≡◌, ◌⊎◌, ◌↔◌, ℕ, true, List, ◌++◌, length}
use Rattle.souper_stream.specs.Prelude.{Lexeme, ItemType}
use Rattle.souper_stream.specs.declared.lines.ScanState.{ScanState}
use Rattle.souper_stream.specs.declared.cuts.Scan.{Scan}
use Rattle.souper_stream.specs.Lines.{LastEnds, first_state, scanned}
use Rattle.souper_stream.specs.Segments.{Line, concat, AreLines, tokens_of_lines, HasNoCut, HasBadLine}

-- the state tells, for any tokens that follow, whether an item ends with them
abbrev pub IsStateAfter : ItemType → List Lexeme → ScanState → Type 0
IsStateAfter k ts s = (us : List Lexeme) → ((scanned k s us).ends_item ≡ true) ↔ LastEnds k (ts ++ us)

-- nothing was scanned
abbrev pub first_scan : Scan
first_scan = record { len = 0; state = first_state }

-- the first of these lines were scanned, and no cut point is between them
pub record IsScan (k : ItemType) (ls : List Line) (scan : Scan) : Type 0 where
  pub front : List Line
  pub back : List Line
  pub whole : ls ≡ front ++ back
  pub len_is : length (concat front) ≡ scan.len
  pub after : IsStateAfter k (tokens_of_lines front) scan.state
  pub uncut : HasNoCut k front

-- the first lines of the text were scanned, and no cut point is between them
abbrev pub HasScan : ItemType → List ℕ → Scan → Type 0
HasScan k text scan = (ls : List Line) → text ≡ concat ls → AreLines ls → IsScan k ls scan

-- the text has no cut point, or none before a line that is not UTF-8
abbrev pub HasNoneDue : ItemType → List ℕ → Type 0
HasNoneDue k text = (ls : List Line) → text ≡ concat ls → AreLines ls → HasNoCut k ls ⊎ HasBadLine k ls
