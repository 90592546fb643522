-- Definitions. The outcomes of the parts of a stream: their output and reports.
use Rattle.std.specs.Prelude.{◌≡◌, ◌⊎◌, ℕ, Bool, true, false, List, [], ◌∷◌, ◌++◌, map, flat_map, filter_map, is_some, option_map, Option, None, Some, Result, Ok, Err}
use Rattle.std.specs.List.{list_any}
use Rattle.std.specs.Io.KnownBytes.{Consumes}
use Rattle.souper_records.specs.Prelude.{Item, ParseError, kind_of, Start, Stream, IsGiven, IsGivenNothing, at_end_of}
use Rattle.souper_graph.specs.Syntax.Spelling.{ItemType, TextSpells, SpellsNone}
use Rattle.souper_errors.specs.declared.error.ParseErrorKind.TheVariants.{Parse}
use Rattle.souper_ir.specs.Sinks.{PrefixSpells}
use Rattle.souper_ir.specs.Stopping.{TextStops}
use Rattle.souper_stream.specs.Segments.{Line, concat, all_lines, HasNoCut, AreParts, PartsSpell}
use Rattle.souper_stream.specs.declared.reader.ItemReader.{ItemReader}
use Rattle.souper_errors.specs.declared.kind.Kind.{Kind}
use Rattle.souper_records.specs.Reports.{Refusal, AreRefusalLines}
use Rattle.souper_ir.specs.Starts.{PrefixSpellsFrom, TextSpellsFrom}
use Rattle.souper_stream.specs.Starts.{ItemsStartAt}
use Rattle.souper_stream.specs.Parts.{IsLocatedIn, IsPlacedIn, EndsAfter, HasParts, keeps_starts}
use Rattle.souper_stream.specs.Reading.{AreAll, NeverSpells}
use Rattle.souper_records.specs.declared.layout.Layout.{Layout}
use Rattle.souper_records.specs.declared.options.ReadOptions.{ReadOptions}
use Rattle.souper_records.specs.declared.parts.Source.{Source}
use Rattle.souper_records.specs.declared.stop.Stop.{Stop}
use Rattle.souper_records.specs.Stops.{UnlessOutput}
use Rattle.souper_records.specs.Records.{records_of}

-- a stream that is read: the type of its items, its name, whether reading resumes after a refusal, for which kind hints are asked for, if
-- they are, and the bytes that are left before reading, if they are known
pub record InputStream : Type 0 where
  pub kind : ItemType
  pub name : List ℕ
  pub recover : Bool
  pub hints : Option Kind
  pub before : Option (List ℕ)

-- a stream that is read with these options
abbrev pub input_stream : ItemType → ReadOptions → Option (List ℕ) → InputStream
input_stream k options before = record { kind = k; name = options.name.now; recover = options.recover; hints = options.hints; before = before }

-- the outcome of a part: whether the stream ends with it, its items, or the ones that it begins with, where they begin, if that was asked
-- for, and its refusal, if it is refused
pub record Outcome : Type 0 where
  pub part : List Line
  pub last : Bool
  pub starts : List Start
  pub items : List Item
  pub refusal : Option Refusal

-- A refused part, after the parsed text `done`. It is one segment. The refusal has its place in the text read of the stream, and says where
-- that is at fault, and whether the segment ended there. It has a hint only if hints are asked for.
pub record IsRefusedPart (r : InputStream) (done : List ℕ) (last : Bool) (part : List Line) (items : List Item) (e : ParseError) (hint : Option (List ℕ)) : Type 0 where
  pub kind : kind_of e ≡ Parse
  pub unasked : r.hints ≡ None → hint ≡ None
  pub segment : HasNoCut r.kind part
  pub none : SpellsNone r.kind (concat part)
  pub begun : PrefixSpells r.kind (concat part) items
  pub now : Option (List ℕ)
  pub read : List ℕ
  pub consumed : Consumes r.before now read
  pub ends : EndsAfter r.before now (done ++ concat part) last
  pub placed : IsPlacedIn (Some r.name) read done (concat part) e
  pub located : IsLocatedIn done (concat part) e
  pub stops : TextStops r.kind (concat part) (at_end_of e)

-- the part spells the items, or it was refused
abbrev pub IsOutcome : InputStream → List ℕ → Bool → List Line → List Item → Option Refusal → Type 0
IsOutcome r done last part items None = TextSpells r.kind (concat part) items
IsOutcome r done last part items (Some e) = IsRefusedPart r done last part items e.error e.hint

-- the outcome of a part, given the parsed text `done` before it
abbrev pub IsOutcomeAfter : InputStream → List ℕ → Outcome → Type 0
IsOutcomeAfter r done o = IsOutcome r done o.last o.part o.items o.refusal

-- the offsets of items that the part spells, or begins with
abbrev pub SpellsAtOffsets : ItemType → List ℕ → Option Refusal → List Item → List ℕ → Type 0
SpellsAtOffsets k part None = TextSpellsFrom k part
SpellsAtOffsets k part (Some e) = PrefixSpellsFrom k part

-- the items of a part begin there, given the parsed text `done` before it
abbrev pub HasItemStarts : ItemType → List ℕ → Outcome → Type 0
HasItemStarts k done o = ItemsStartAt (SpellsAtOffsets k (concat o.part) o.refusal) done (concat o.part) o.items o.starts

-- P holds of each outcome, and of the text of the parts before it
abbrev pub AllAfter : (List ℕ → Outcome → Type 0) → List (List Line) → List Outcome → Type 0
AllAfter P before [] = Unit {0}
AllAfter P before (o ∷ os) = P (concat (all_lines before)) o × AllAfter P (before ++ o.part ∷ []) os

-- the items of each part begin there, given the parts before it
abbrev pub HaveItemStarts : ItemType → List (List Line) → List Outcome → Type 0
HaveItemStarts k before os = AllAfter (HasItemStarts k) before os

-- the outcome of each part, given the parts before it
abbrev pub AreOutcomes : InputStream → List (List Line) → List Outcome → Type 0
AreOutcomes r before os = AllAfter (IsOutcomeAfter r) before os

abbrev pub parts_of : List Outcome → List (List Line)
parts_of os = map (λ (o : Outcome). o.part) os

abbrev pub items_of : List Outcome → List Item
items_of os = flat_map (λ (o : Outcome). o.items) os

-- the refusals, and whether the stream ends with the refused part
abbrev pub refusals_of : List Outcome → List (Bool × Refusal)
refusals_of os = filter_map (λ (o : Outcome). option_map (λ (e : Refusal). (o.last, e)) o.refusal) os

abbrev pub any_refused : List Outcome → Bool
any_refused os = list_any (λ (o : Outcome). is_some o.refusal) os

-- the text is the lines of these refusals of the stream of this name, and of their hints
abbrev pub AreErrorLines : List ℕ → List (Bool × Refusal) → List ℕ → Type 0
AreErrorLines name [] text = text ≡ []
AreErrorLines name (e ∷ es) text = (line : List ℕ) × (rest : List ℕ) × (text ≡ line ++ rest) × AreRefusalLines e.0 name e.1 line × AreErrorLines name es rest

-- unless the writer has failed, the lines of the refusals were written to it; without refusals, nothing was
abbrev pub AreReported : List ℕ → Stream → List (Bool × Refusal) → Type 0
AreReported name err [] = IsGivenNothing err
AreReported name err (e ∷ es) = err.failed ≡ false → (text : List ℕ) × AreErrorLines name (e ∷ es) text × IsGiven err text

-- unless the writer has failed, the lines of the refusals were written to it, and then a line with the property P
abbrev pub AreReportedThen : List ℕ → Stream → List (Bool × Refusal) → (List ℕ → Type 0) → Type 0
AreReportedThen name err es P = err.failed ≡ false → (text : List ℕ) × (line : List ℕ) × AreErrorLines name es text × P line × IsGiven err (text ++ line)

-- the stream is read from its beginning
abbrev pub IsAtStart : Source → Type 0
IsAtStart source = ((k : ItemType) (start : Option (List ℕ)) → HasParts k start start [] source.parts)

-- The text of a stream that was read so far: these parts, the last of which is refused, and more. Whatever follows, the stream spells no
-- items. If the parts before spell items, the text begins with these and the ones of the last.
pub record IsRefusedAfter (r : InputStream) (now : Option (List ℕ)) (ps : List (List Line)) (o : Outcome) : Type 0 where
  pub read : List ℕ
  pub rest : List ℕ
  pub consumed : Consumes r.before now read
  pub whole : read ≡ concat (all_lines (ps ++ o.part ∷ [])) ++ rest
  pub never : NeverSpells r.kind (AreAll r.before read) read
  pub begun : (items : List Item) → PartsSpell r.kind ps items → PrefixSpells r.kind read (items ++ o.items)

-- the next part was read, its outcome was written, and its refusal was reported, if it was refused
pub record WritesPart (r : InputStream) (now : Option (List ℕ)) (ps : List (List Line)) (written : Outcome → Type 0) (err : Stream) (refused : Bool) (reader : ItemReader) : Type 0 where
  pub outcome : Outcome
  pub had : HasParts r.kind r.before now (ps ++ outcome.part ∷ []) reader
  pub is : IsOutcomeAfter r (concat (all_lines ps)) outcome
  pub begin : keeps_starts reader ≡ true → HasItemStarts r.kind (concat (all_lines ps)) outcome
  pub any : refused ≡ any_refused (outcome ∷ [])
  pub after : refused ≡ true → IsRefusedAfter r now ps outcome
  pub are_written : written outcome
  pub reported : AreReported r.name err (refusals_of (outcome ∷ []))

-- The stream begins with parts that have these outcomes. If none of them is refused, it begins with their items.
pub record ReadsParts (r : InputStream) (now : Option (List ℕ)) (outcomes : List Outcome) : Type 0 where
  pub read : List ℕ
  pub rest : List ℕ
  pub consumed : Consumes r.before now read
  pub whole : read ≡ concat (all_lines (parts_of outcomes)) ++ rest
  pub are : AreOutcomes r [] outcomes
  pub begun : any_refused outcomes ≡ false → PrefixSpells r.kind read (items_of outcomes)

-- of these outcomes the last alone is refused, and the text read begins with their items
pub record EndsRefused (k : ItemType) (read : List ℕ) (outcomes : List Outcome) : Type 0 where
  pub front : List Outcome
  pub last : Outcome
  pub whole : outcomes ≡ front ++ last ∷ []
  pub none : any_refused front ≡ false
  pub begun : PrefixSpells k read (items_of outcomes)

-- The stream was read to its end, or without recovery to its first refusal: the outcome of each part was written, and each refusal was
-- reported, in order. If a part was refused, the stream spells no items, whatever follows the text read; if none was, it spells their items.
pub record WritesParts (r : InputStream) (after : Option (List ℕ)) (written : List Outcome → Type 0) (err : Stream) (refused : Bool) : Type 0 where
  pub outcomes : List Outcome
  pub reads : ReadsParts r after outcomes
  pub any : refused ≡ any_refused outcomes
  pub ended : (r.recover ≡ true) ⊎ (refused ≡ false) → AreAll r.before reads.read × AreParts r.kind reads.read (parts_of outcomes)
  pub spelled : refused ≡ false → TextSpells r.kind reads.read (items_of outcomes)
  pub never : refused ≡ true → NeverSpells r.kind (AreAll r.before reads.read) reads.read
  pub stopped : r.recover ≡ false → refused ≡ true → EndsRefused r.kind reads.read outcomes
  pub are_written : written outcomes
  pub reported : AreReported r.name err (refusals_of outcomes)

-- the stream begins with parts that have these outcomes; without recovery none of them is refused, or the last alone
abbrev pub IsBegun : InputStream → List Outcome → Type 0
IsBegun r os = (now : Option (List ℕ)) × (begun : ReadsParts r now os) × (r.recover ≡ false → (any_refused os ≡ false) ⊎ EndsRefused r.kind begun.read os)

-- Reading or writing stopped after these parts: without recovery none of them is refused, their refusals were reported, and unless the
-- output is the cause their outcomes were written; if it is, it has failed.
abbrev pub StopsAfter : InputStream → (List Outcome → Type 0) → Bool → Stream → Stop → Type 0
StopsAfter r written failed err stop = (os : List Outcome) × IsBegun r os × (r.recover ≡ false → any_refused os ≡ false) × AreReported r.name err (refusals_of os) × UnlessOutput stop failed (written os)

-- What writing the output of the parts returned: whether a part was refused, and then the outcomes were written; or why it stopped, and then
-- `known` holds of them unless the output is the cause.
abbrev pub IsPartsResult : InputStream → Option (List ℕ) → (List Outcome → Type 0) → (List Outcome → Type 0) → Bool → Stream → Result Bool Stop → Type 0
IsPartsResult r after written known failed err (Ok refused) = WritesParts r after written err refused
IsPartsResult r after written known failed err (Err stop) = StopsAfter r known failed err stop

-- the outcomes were written; and if it was asked where items begin, they begin there
abbrev pub WroteParts : ItemType → Bool → (List Outcome → Type 0) → List Outcome → Type 0
WroteParts k asked wrote os = wrote os × (asked ≡ true → HaveItemStarts k [] os)

-- the items of the outcomes were written, also the ones that refused parts begin with
abbrev pub OfItems : (List Item → Type 0) → List Outcome → Type 0
OfItems written os = written (items_of os)

-- how items are written: their records, and nothing else
abbrev pub WritesRecords : Layout → Stream → List Item → Type 0
WritesRecords l out items = IsGiven out (records_of l items)
