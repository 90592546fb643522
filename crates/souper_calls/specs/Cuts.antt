-- Definitions. What a call says of the cut points of a text.
use Rattle.std.specs.Prelude.{◌≡◌, ℕ, ◌<◌, List, ◌++◌}
use Rattle.souper_graph.specs.Syntax.Tokens.{IsOneLine}
use Rattle.souper_graph.specs.Syntax.Spelling.{ItemType}
use Rattle.souper_errors.specs.Places.{IsLines}
use Rattle.souper_stream.specs.Segments.{Line, concat, AreLines, CutsAt, HasNoCutAfter, IsFirstSegment, HasBadLine}
use Rattle.souper_calls.specs.Kinds.{OfType}

-- the lines of a text have the property
abbrev pub OfLines : List ℕ → (List Line → Type 0) → Type 0
OfLines text fact = (ls : List Line) → text ≡ concat ls → AreLines ls → fact ls

-- the whole lines that the bytes begin with, up to the last newline, have the property
abbrev pub OfWholeLines : List ℕ → (List ℕ → Type 0) → Type 0
OfWholeLines bytes fact = (lines : List ℕ) × (rest : List ℕ) × (bytes ≡ lines ++ rest) × IsLines lines × IsOneLine rest × fact lines

-- a cut point of the lines has that offset, or it is 0; and no cut point is after it
abbrev pub IsLastCut : ItemType → ℕ → List Line → Type 0
IsLastCut k offset ls = (0 < offset → CutsAt k ls offset) × HasNoCutAfter k ls offset

-- the last cut point of the whole lines that the bytes begin with has that offset, which is 0 if there is none
abbrev pub CutsLast : ℕ → List ℕ → ℕ → Type 0
CutsLast kind bytes offset = OfType kind (λ k. OfWholeLines bytes (λ lines. OfLines lines (IsLastCut k offset)))

-- the first segment of the text has that length
abbrev pub HasFirstSegment : ℕ → List ℕ → ℕ → Type 0
HasFirstSegment kind text len = OfType kind (λ k. OfLines text (λ ls. IsFirstSegment k ls len))

-- a line of the text is not UTF-8, in its first segment or right after it
abbrev pub HasBadStart : ℕ → List ℕ → Type 0
HasBadStart kind text = OfType kind (λ k. OfLines text (HasBadLine k))
