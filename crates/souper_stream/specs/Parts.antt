-- Definitions. The reading of a stream by parts: each is some of its segments, and a part that spells no items is one segment.
use Rattle.std.specs.Prelude.{◌≡◌, ◌⊎◌, ℕ, ◌+◌, ◌-◌, ◌^◌, ◌<◌, ◌≤◌, Bool, true, false, is_some, List, [], ◌∷◌, ◌++◌, length, take, drop, Option, IfSome}
use Rattle.std.specs.List.{AllByRecursion}
use Rattle.std.specs.Io.KnownBytes.{Consumes}
use Rattle.souper_stream.specs.Prelude.{IsOneLine, ItemType, TextSpells, SpellsNone, Item, ParseError, HasLocation, IsRefusalAt, IsLines, PrefixSpells, PrefixSpellsFrom, TextSpellsFrom, starts_of, TextStops, at_end_of}
use Rattle.souper_stream.specs.declared.buffer.Buffer.{Buffer}
use Rattle.souper_stream.specs.declared.reader.ItemReader.{ItemReader}
use Rattle.souper_stream.specs.Buffering.{unparsed, last_part, Buffers, Passes, KeepsWindow}
use Rattle.souper_stream.specs.declared.cuts.Scan.{Scan}
use Rattle.souper_stream.specs.Scanning.{HasScan, HasNoneDue}
use Rattle.souper_stream.specs.declared.starts.Start.{Start}
use Rattle.souper_stream.specs.Starts.{AreStarts, ItemsStartAt}
use Rattle.souper_stream.specs.Segments.{Line, concat, IsWholeLine, AreLines, HasNoCut, IsCut, AreCut, all_lines, AreParts}
use Rattle.souper_stream.specs.Reading.{AreAll, NeverSpells}

-- the first `len` bytes of the lines are whole segments: a cut point is after them, or the stream has ended
pub record IsChunk (k : ItemType) (ended : Bool) (ls : List Line) (len : ℕ) : Type 0 where
  pub front : List Line
  pub back : List Line
  pub whole : ls ≡ front ++ back
  pub len_is : length (concat front) ≡ len
  pub cut : IsCut k front back ⊎ ((back ≡ []) × (ended ≡ true))

-- the parts, and the lines of the next, if there are any
abbrev pub and_next : List (List Line) → List Line → List (List Line)
and_next ps [] = ps
and_next ps (l ∷ ls) = ps ++ (l ∷ ls) ∷ []

-- These lines of a stream were read, and bytes after them: an open line, which is kept unless a read failed.
pub record HasLines (start now : Option (List ℕ)) (ls : List Line) (open_line : List ℕ) (ended failed : Bool) : Type 0 where
  pub after : List ℕ
  pub consumed : Consumes start now (concat ls ++ after)
  pub after_is : failed ≡ false → after ≡ open_line
  pub not_failed : ended ≡ true → failed ≡ false
  pub none_open : ended ≡ true → open_line ≡ []
  pub all_read : ended ≡ true → AreAll start (concat ls)
  pub are : AreLines ls
  pub whole : ended ≡ false → AllByRecursion IsWholeLine ls
  pub one_line : IsOneLine open_line

-- these parts of a stream were read and parsed, and these lines are buffered after them
pub record HasRead (k : ItemType) (start now : Option (List ℕ)) (ps : List (List Line)) (ls : List Line) (b : Buffer) (open_line : List ℕ) (ended failed : Bool) (pending : ℕ) (scan : Scan) : Type 0 where
  pub lines : HasLines start now (all_lines ps ++ ls) open_line ended failed
  pub buffers : Buffers (concat (all_lines ps)) (concat ls) b
  pub cut : AreCut k (and_next ps ls)
  pub some : ended ≡ false → ls ≡ [] → ps ≡ []
  pub chunk : 0 < pending → IsChunk k ended ls pending
  pub scanned : HasScan k (drop pending (concat ls)) scan

-- these parts of a stream were read and parsed
abbrev pub HasParts : ItemType → Option (List ℕ) → Option (List ℕ) → List (List Line) → ItemReader → Type 0
HasParts k start now ps r = (ls : List Line) × HasRead k start now ps ls r.buffer r.open_line.items r.ended (is_some r.fault) r.pending r.scan

-- the stream has ended, and these are its parts
abbrev pub HasAll : ItemType → Option (List ℕ) → Option (List ℕ) → List (List Line) → Type 0
HasAll k start now ps = (read : List ℕ) × Consumes start now read × AreAll start read × AreParts k read ps

-- whether the stream ends after this text
abbrev pub EndsAfter : Option (List ℕ) → Option (List ℕ) → List ℕ → Bool → Type 0
EndsAfter start now text true = Consumes start now text × AreAll start text
EndsAfter start now text false = (rest : List ℕ) × (0 < length rest) × Consumes start now (text ++ rest)

-- the same parts were parsed
abbrev pub KeepsParts : ItemType → Option (List ℕ) → Option (List ℕ) → ItemReader → ItemReader → Type 0
KeepsParts k before after old new = (start : Option (List ℕ)) (ps : List (List Line)) → HasParts k start before ps old → HasParts k start after ps new

-- the reader keeps where items begin
abbrev pub keeps_starts : ItemReader → Bool
keeps_starts r = is_some (starts_of r.memory)

-- the reader looks for a cut point before each read
abbrev pub reads_eagerly : ItemReader → Bool
reads_eagerly r = r.is_eager

-- `r.starts()`
abbrev pub starts_of_part : ItemReader → List Start
starts_of_part r = r.starts.items

-- If a chunk was read, the parsed text but for its last line was dropped before; else the buffer is the old one.
pub record ReadsOn (old new : ItemReader) : Type 0 where
  pub chunk : old.pending ≡ 0 → KeepsWindow old.buffer new.buffer
  pub segment : 0 < old.pending → new.buffer.bytes.items ≡ old.buffer.bytes.items

-- the bytes that were read and not parsed
abbrev pub buffered : ItemReader → List ℕ
buffered r = unparsed r.buffer ++ r.open_line.items

-- These bytes were read, the last of them by one read of at most 64 KiB. The whole lines that were there before it had no cut point, or none
-- before a line that is not UTF-8.
pub record ReadsLast (k : ItemType) (bytes : List ℕ) : Type 0 where
  pub lines : List ℕ
  pub open_line : List ℕ
  pub block : List ℕ
  pub bytes_are : bytes ≡ (lines ++ open_line) ++ block
  pub none_due : HasNoneDue k lines
  pub one_line : IsOneLine open_line
  pub short : length block ≤ 65536

-- `r.part()`
abbrev pub part_of : ItemReader → List ℕ
part_of r = last_part r.buffer

-- the parse error of a part, after the parsed text `done`, has and shows its place in the text read
abbrev pub IsPlacedIn : Option (List ℕ) → List ℕ → List ℕ → List ℕ → ParseError → Type 0
IsPlacedIn file read done part e = length read + 1 < 2 ^ 64 → (offset : ℕ) × (length done ≤ offset) × (offset ≤ length (done ++ part)) × IsRefusalAt file read offset e

-- the parse error of a part, after the parsed text `done`, says where the text read up to the part's end is at fault
abbrev pub IsLocatedIn : List ℕ → List ℕ → ParseError → Type 0
IsLocatedIn done part e = length (done ++ part) + 1 < 2 ^ 64 → HasLocation (done ++ part) e

-- these are the starts of the bytes at these offsets of the first `len` unparsed bytes
abbrev pub AreNextStarts : Buffer → ℕ → List ℕ → List Start → Type 0
AreNextStarts b len offsets starts = (done rest : List ℕ) → Buffers done rest b → length (done ++ take len rest) + 1 < 2 ^ 64 → AreStarts done (take len rest) offsets starts

-- the first `len` unparsed bytes were parsed, and the reader has the starts of their items, if it keeps starts
pub record Advances (old : ItemReader) (len : ℕ) (new : ItemReader) : Type 0 where
  pub same : new ≡ record old { buffer = new.buffer; starts = new.starts; pending = old.pending - len }
  pub passes : Passes old.buffer len new.buffer
  pub begin : IfSome (starts_of old.memory) (λ offsets. AreNextStarts old.buffer len offsets new.starts.items)

-- a sink that held nothing holds the items
abbrev pub Holds : {S : Type 0} → (S → S → List Item → Type 0) → List Item → S → S → Type 0
Holds {S} holds items old new = (first : S) → holds first old [] → holds first new items

-- the next part spells items, and the sink took them
pub record TakesPart {S : Type 0} (k : ItemType) (start now : Option (List ℕ)) (ps : List (List Line)) (holds : S → S → List Item → Type 0) (old new : S) (r : ItemReader) : Type 0 where
  pub part : List Line
  pub goes_on : HasParts k start now (ps ++ part ∷ []) r
  pub text : part_of r ≡ concat part
  pub items : List Item
  pub begin : keeps_starts r ≡ true → ItemsStartAt (TextSpellsFrom k (concat part)) (concat (all_lines ps)) (concat part) items (starts_of_part r)
  pub spelled : TextSpells k (concat part) items
  pub taken : Holds holds items old new

-- The next segment spells no items: whatever follows the text read, the whole stream spells none. The sink took items that the segment
-- begins with. The parse error has and shows its place in the text read, and says where that is at fault, and whether the segment ended
-- there.
pub record RefusesPart {S : Type 0} (k : ItemType) (file start now : Option (List ℕ)) (ps : List (List Line)) (holds : S → S → List Item → Type 0) (old new : S) (r : ItemReader) (e : ParseError) : Type 0 where
  pub part : List Line
  pub goes_on : HasParts k start now (ps ++ part ∷ []) r
  pub text : part_of r ≡ concat part
  pub segment : HasNoCut k part
  pub none : SpellsNone k (concat part)
  pub items : List Item
  pub begin : keeps_starts r ≡ true → ItemsStartAt (PrefixSpellsFrom k (concat part)) (concat (all_lines ps)) (concat part) items (starts_of_part r)
  pub begun : PrefixSpells k (concat part) items
  pub taken : Holds holds items old new
  pub read : List ℕ
  pub after : List ℕ
  pub consumed : Consumes start now read
  pub whole : read ≡ concat (all_lines (ps ++ part ∷ [])) ++ after
  pub ends : IsLines (concat part) ⊎ (after ≡ [])
  pub never : NeverSpells k (AreAll start read) read
  pub placed : IsPlacedIn file read (concat (all_lines ps)) (concat part) e
  pub located : IsLocatedIn (concat (all_lines ps)) (concat part) e
  pub stops : TextStops k (concat part) (at_end_of e)
