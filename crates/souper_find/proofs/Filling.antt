-- A store that takes the replacements of a stream.
use Rattle.std.proofs.Common.{◌≡◌, inl, inr, ℕ, Bool, true, false, List, [], ◌∷◌, ◌++◌, Option, Some, refl, sym, ◌∙◌, arith}
use Rattle.std.specs.Prelude.{Result, Ok, Err, OnOk, OnErr}
use Rattle.std.proofs.KnownBytes.{Appends-trans}
use Rattle.souper_graph.specs.Values.{Item}
use Rattle.souper_graph.specs.Syntax.Spelling.{replacement}
use Rattle.souper_errors.specs.declared.error.ParseError.{ParseError}
use Rattle.souper_errors.specs.declared.error.ParseErrorKind.TheVariants.{Parse}
use Rattle.souper_errors.specs.Errors.{kind_of}
use Rattle.souper_stream.specs.Reading.{IsStreamTaken, IsStreamRefused}
use Rattle.souper_watched.specs.Streams.{Reported, Stream, stream}
use Rattle.souper_watched.specs.Watching.{has_failed}
use Rattle.souper_watched.specs.declared.Watched.{Watched}
use Rattle.souper_lookup.specs.declared.store.Store.{Store}
use Rattle.souper_lookup.specs.Stored.{Entry, AreAdded, Stores}
use Rattle.souper_stream.specs.Parts.{HasParts}
use Rattle.souper_stream.specs.Segments.{Line, concat, all_lines}
use Rattle.souper_stream.specs.declared.reader.ItemReader.{ItemReader}
use Rattle.souper_records.specs.Reports.{IsRefusalLine, hint_line, ReportedInput}
use Rattle.souper_records.proofs.Outcomes.{some_parts}
use Rattle.souper_find.specs.Runs.{AreUnfilledLines, ReportedHint, IsFilled, IsFillRun}

-- the entries of a store that took the replacements
abbrev pub Holds : Store → Store → List Item → Type 0
Holds first store items = (entries : List Entry) → Stores entries first → (now : List Entry) × AreAdded items entries now × Stores now store

pub filled : (entries : List Entry) (before after : Option (List ℕ)) (old new : Store) → Stores entries old → IsStreamTaken replacement before after Holds old new → IsFilled entries before after new
filled entries before after old new h t =
    let (items, spelled, over) = t.taken in
    let none : Holds old old [] = λ es s. (es, refl, s) in
    let (now, added, stores) = over old [] none entries h in
    record { read = t.read; whole = (t.consumed, t.all_read); items = items; spelled = spelled; now = now; added = added; stores = stores }

-- a writer that has not failed took what was written to it
pub is_written : {T E : Type 0} (r : Result T E) (failed : Bool) (P : Type 0) → OnOk r P → OnErr r (failed ≡ true) → failed ≡ false → P
is_written (Ok x) failed P ok err works = ok
is_written (Err e) failed P ok err works = let clash : true ≡ false = sym err ∙ works in absurd cc

-- a writer that has not failed had not failed before
works_before : (mid now : Bool) → (mid ≡ true → now ≡ true) → now ≡ false → mid ≡ false
works_before true now stays works = let clash : true ≡ false = sym (stays refl) ∙ works in absurd cc
works_before false now stays works = refl

-- the line of a refusal, and then the line of a hint
with_hint : {W : Type 0} (contents : W → Option (List ℕ)) (old mid new : Watched W) (last : Bool) (name : List ℕ) (e : ParseError) → Reported (stream contents old mid) (IsRefusalLine last name e)
    → ReportedHint (stream contents mid new) → (has_failed mid ≡ true → has_failed new ≡ true) → Reported (stream contents old new) (AreUnfilledLines last name e)
with_hint contents old mid new last name e refusal hinted stays = λ works.
    let (line, is, given) = refusal (works_before (has_failed mid) (has_failed new) stays works) in
    let (hint, said) = hinted works in
    (line ++ hint_line hint, (hint, (line, is, refl)), Appends-trans _ _ _ _ _ given said)

-- status 1 says that the stream is refused
pub refused_kind : (name : List ℕ) (parts : ItemReader) (err : Stream) (status : ℕ) (e : ParseError) → ReportedInput name parts err status e → status ≡ 1 → kind_of e ≡ Parse
refused_kind name parts err status e (inl (one, kind, line)) is = kind
refused_kind name parts err status e (inr (two, why)) is = let clash : 2 ≡ 1 = sym two ∙ is in absurd (omega (arith, clash))

-- any other status
pub fill_stops : (entries : List Entry) (name : List ℕ) (before after : Option (List ℕ)) (new : Store) (err : Stream) (e : ParseError) (status : ℕ) (parts : ItemReader) → ReportedInput name parts err status e → ¬ (status ≡ 1)
    → IsFillRun entries name before after new err status
fill_stops entries name before after new err e status parts (inl (one, kind, line)) other = absurd (other one)
fill_stops entries name before after new err e status parts (inr (two, why)) other = rw two why

-- status 1, after the line of the refusal and the line of its hint
pub fill_refused : {W : Type 0} (contents : W → Option (List ℕ)) (err mid last : Watched W) (entries : List Entry) (name : List ℕ) (before after : Option (List ℕ)) (old new : Store) (e : ParseError) (status : ℕ) (parts : ItemReader)
    → (kind_of e ≡ Parse → IsStreamRefused replacement (Some name) before after Holds old new e)
    → (kind_of e ≡ Parse → (ps : List (List Line)) × (part : List Line) × HasParts replacement before after (ps ++ part ∷ []) parts) → ReportedInput name parts (stream contents err mid) status e
    → status ≡ 1 → ReportedHint (stream contents mid last) → (has_failed mid ≡ true → has_failed last ≡ true) → IsFillRun entries name before after new (stream contents err last) status
fill_refused contents err mid last entries name before after old new e status parts refused had (inl (one, kind, (is_last, ends, line))) is hinted stays =
    let r = refused kind in
    let (ps, part, h) = had kind in
    rw one (record {
      read = r.read;
      consumed = r.consumed;
      never = r.never;
      error = e;
      placed = r.placed;
      located = r.located;
      stops = r.stops;
      text = concat (all_lines (ps ++ part ∷ []));
      last = is_last;
      ends = ends replacement before after (ps ++ part ∷ []) (some_parts ps part) h;
      reported = with_hint contents err mid last is_last name e line hinted stays;
    })
fill_refused contents err mid last entries name before after old new e status parts refused had (inr (two, why)) is hinted stays = let clash : 2 ≡ 1 = sym two ∙ is in absurd (omega (arith, clash))
