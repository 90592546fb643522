-- Part after part: the text read of a stream, the output, and the reports.
use Rattle.std.proofs.Common.{◌≡◌, ◌⊎◌, inl, inr, ℕ, Bool, true, false, ◌||◌, ◌<◌, List, [], ◌∷◌, ◌++◌, length, arith, is_some, option_map, Option, Some, None, refl, sym, ap, ◌∙◌, subst, append_assoc, append-nil, Result, Ok, Err}
use Rattle.std.specs.List.{cons_option, AllZip}
use Rattle.std.specs.declared.io.Error.{Error}
use Rattle.std.proofs.lemmas.Bool.{false_from_ne_true, both_ways}
use Rattle.std.proofs.lemmas.Grind.{flat_map-append}
use Rattle.std.proofs.lemmas.List.{map-append, length_push}
use Rattle.std.proofs.lemmas.List.Folds.{list_any-append}
use Rattle.souper_records.proofs.Prelude.{Item, TextSpells, Watched, Stream, stream, IsGiven, IsGivenNothing, has_failed}
use Rattle.std.proofs.KnownBytes.{Appends-nil, Appends-trans, Appends-kept, Keeps-trans}
use Rattle.std.proofs.lemmas.List.Elements.{filter_map-append}
use Rattle.souper_ir.specs.Sinks.{PrefixSpells}
use Rattle.souper_stream.specs.declared.reader.ItemReader.{ItemReader}
use Rattle.souper_stream.specs.Segments.{Line, concat, all_lines, PartsSpell}
use Rattle.souper_stream.specs.Parts.{HasParts, HasAll, keeps_starts}
use Rattle.souper_stream.proofs.SegmentLaws.{spells_by_parts}
use Rattle.souper_stream.proofs.Reached.{prefix_of, parts_begin}
use Rattle.souper_records.specs.declared.stop.Stop.{Stop}
use Rattle.souper_records.specs.declared.stop.Stop.TheVariants.{Input, Output, Memory}
use Rattle.souper_records.specs.Stops.{UnlessOutput}
use Rattle.souper_records.specs.Runs.{output_name, EndsWithFault, IsPartsEnd, IsRun}
use Rattle.souper_watched.specs.Streams.{Reported}
use Rattle.souper_records.specs.Reports.{Refusal, IsMemoryLine, IsFaultLine, IsReadFaultLine}
use Rattle.souper_records.specs.Outputs.{AreRowTexts}
use Rattle.souper_records.specs.Outcomes.{InputStream, Outcome, IsOutcome, IsOutcomeAfter, AllAfter, AreOutcomes, HasItemStarts, HaveItemStarts, parts_of, items_of, refusals_of, any_refused, AreErrorLines, AreReported, AreReportedThen, WritesPart, WritesParts, ReadsParts, EndsRefused, IsBegun, StopsAfter, IsPartsResult, WroteParts}

-- ---- lists of outcomes

-- one more
pub all_more : (P : List ℕ → Outcome → Type 0) (before : List (List Line)) (os : List Outcome) (o : Outcome) → AllAfter P before os → P (concat (all_lines (before ++ parts_of os))) o → AllAfter P before (os ++ o ∷ [])
all_more P before [] o h is = (subst (λ (x : List (List Line)). P (concat (all_lines x)) o) (append-nil before) is, tt)
all_more P before (p ∷ os) o h is =
    (h.0, all_more P (before ++ p.part ∷ []) os o h.1 (subst (λ (x : List (List Line)). P (concat (all_lines x)) o) (sym (append_assoc before (p.part ∷ []) (parts_of os))) is))

pub parts_more : (os : List Outcome) (o : Outcome) → parts_of (os ++ o ∷ []) ≡ parts_of os ++ o.part ∷ []
parts_more os o = map-append (λ (x : Outcome). x.part) os (o ∷ [])

pub items_more : (os : List Outcome) (o : Outcome) → items_of (os ++ o ∷ []) ≡ items_of os ++ o.items
items_more os o = flat_map-append (λ (x : Outcome). x.items) os (o ∷ []) ∙ ap (λ (x : List Item). items_of os ++ x) (append-nil o.items)

pub some_parts : (ps : List (List Line)) (p : List Line) → 0 < length (ps ++ p ∷ [])
some_parts ps p = let long = length_push ps p in omega arith

-- ---- reports

lines_both : (name : List ℕ) (es fs : List (Bool × Refusal)) (s t : List ℕ) → AreErrorLines name es s → AreErrorLines name fs t → AreErrorLines name (es ++ fs) (s ++ t)
lines_both name [] fs s t none l = rw none l
lines_both name (e ∷ es) fs s t (line, rest, is, one, more) l = (line, rest ++ t, ap (λ (x : List ℕ). x ++ t) is ∙ append_assoc line rest t, one, lines_both name es fs rest t more l)

-- what was reported, if the writer works
told : (name : List ℕ) (s : Stream) (es : List (Bool × Refusal)) → AreReported name s es → s.failed ≡ false → (text : List ℕ) × AreErrorLines name es text × IsGiven s text
told name s [] r works = ([], refl, Appends-kept s.before s.before s.after [] (Appends-nil s.before) r)
told name s (e ∷ es) r works = r works

-- Two parts of the output of a writer: from x to y, and then to z. A writer that has failed stays so.
module _ {W : Type 0} (bytes_of : W → Option (List ℕ)) (x y z : Watched W) (stays : has_failed y ≡ true → has_failed z ≡ true) (name : List ℕ) where
  worked : has_failed z ≡ false → has_failed y ≡ false
  worked works = false_from_ne_true (has_failed y) (λ bad. both_ways (has_failed z) works (stays bad))

  pub reported_both : (es fs : List (Bool × Refusal)) → AreReported name (stream bytes_of x y) es → AreReported name (stream bytes_of y z) fs → AreReported name (stream bytes_of x z) (es ++ fs)
  reported_both [] [] r h = Keeps-trans _ _ _ r h
  reported_both es fs r h = λ works.
      let (s, lines, given) = told name (stream bytes_of x y) es r (worked works) in
      let (t, more, rest) = told name (stream bytes_of y z) fs h works in
      (s ++ t, lines_both name es fs s t lines more, Appends-trans _ _ _ s t given rest)

  pub reported_none : (es : List (Bool × Refusal)) → AreReported name (stream bytes_of x y) es → IsGivenNothing (stream bytes_of y z) → AreReported name (stream bytes_of x z) es
  reported_none es r h = subst (AreReported name (stream bytes_of x z)) (append-nil es) (reported_both es [] r h)

  -- then a line with the property P was
  pub reported_then : (es : List (Bool × Refusal)) (P : List ℕ → Type 0) → AreReported name (stream bytes_of x y) es → Reported (stream bytes_of y z) P → AreReportedThen name (stream bytes_of x z) es P
  reported_then es P r h = λ works.
      let (s, lines, given) = told name (stream bytes_of x y) es r (worked works) in
      let (line, is, more) = h works in
      (s, line, lines, is, Appends-trans _ _ _ s line given more)

-- ---- part after part

-- the output of the parts so far
pub record Reached (r : InputStream) (mid : Option (List ℕ)) (asked : Bool) (wrote : List Outcome → Type 0) (err : Stream) (any : Bool) (reader : ItemReader) : Type 0 where
  pub outcomes : List Outcome
  pub had : HasParts r.kind r.before mid (parts_of outcomes) reader
  pub are : AreOutcomes r [] outcomes
  pub started : asked ≡ true → HaveItemStarts r.kind [] outcomes
  pub written : wrote outcomes
  pub reported : AreReported r.name err (refusals_of outcomes)
  pub any_is : any ≡ any_refused outcomes

-- ---- refusals

-- no part was refused
pub none_refused : (r : InputStream) (before : List (List Line)) (os : List Outcome) → AreOutcomes r before os → any_refused os ≡ false → (refusals_of os ≡ []) × PartsSpell r.kind (parts_of os) (items_of os)
none_refused r before [] h none = (refl, refl)
none_refused r before (o ∷ os) h none = under o.refusal h.0 none (λ rest. none_refused r (before ++ o.part ∷ []) os h.1 rest)
  where
    under : (e : Option Refusal) → IsOutcome r (concat (all_lines before)) o.last o.part o.items e → (is_some e || any_refused os) ≡ false → (any_refused os ≡ false → (refusals_of os ≡ []) × PartsSpell r.kind (parts_of os) (items_of os))
        → (cons_option (option_map (λ (x : Refusal). (o.last, x)) e) (refusals_of os) ≡ []) × PartsSpell r.kind (o.part ∷ parts_of os) (o.items ++ items_of os)
    under (Some e) is bad more = absurd cc
    under None is rest more = let m = more rest in (m.0, (o.items, items_of os, refl, is, m.1))

-- nothing was reported if no part was refused
pub none_reported : (r : InputStream) (err : Stream) (os : List Outcome) → AreOutcomes r [] os → any_refused os ≡ false → AreReported r.name err (refusals_of os) → IsGivenNothing err
none_reported r err os are none reported = subst (AreReported r.name err) (none_refused r [] os are none).0 reported

-- a part was, so the parts spell no items
parts_none : (r : InputStream) (before : List (List Line)) (os : List Outcome) (items : List Item) → AreOutcomes r before os → any_refused os ≡ true → PartsSpell r.kind (parts_of os) items → ⊥
parts_none r before [] items h any spells = absurd cc
parts_none r before (o ∷ os) items h any (xs, ys, is, one, more) = under o.refusal h.0 any (λ some. parts_none r (before ++ o.part ∷ []) os ys h.1 some more)
  where
    under : (e : Option Refusal) → IsOutcome r (concat (all_lines before)) o.last o.part o.items e → (is_some e || any_refused os) ≡ true → (any_refused os ≡ true → ⊥) → ⊥
    under (Some e) refused some later = refused.none xs one
    under None spelled some later = later some

-- one part more
module _ {i : InputStream} {mid after : Option (List ℕ)} {asked : Bool} {wrote both : List Outcome → Type 0} {more : Outcome → Type 0} {any refused : Bool} {p q : ItemReader} {E : Type 0} (bytes_of : E → Option (List ℕ)) (x y z : Watched E) (stays : has_failed y ≡ true → has_failed z ≡ true) (same : keeps_starts q ≡ asked)
    (join : (os : List Outcome) (o : Outcome) → wrote os → more o → both (os ++ o ∷ [])) (r : Reached i mid asked wrote (stream bytes_of x y) any p) (w : WritesPart i after (parts_of r.outcomes) more (stream bytes_of y z) refused q) where
  abbrev pub reached_more : Reached i after asked both (stream bytes_of x z) (any || refused) q
  reached_more =
      let os = r.outcomes in
      let o = w.outcome in
      record {
        outcomes = os ++ o ∷ [];
        had = subst (λ (ps : List (List Line)). HasParts i.kind i.before after ps q) (sym (parts_more os o)) w.had;
        are = all_more (IsOutcomeAfter i) [] os o r.are w.is;
        started = λ e. all_more (HasItemStarts i.kind) [] os o (r.started e) (w.begin (same ∙ e));
        written = join os o r.written w.are_written;
        reported = subst (AreReported i.name (stream bytes_of x z)) (sym (filter_map-append (λ (p : Outcome). option_map (λ (e : Refusal). (p.last, e)) p.refusal) os (o ∷ []))) (reported_both bytes_of x y z stays i.name (refusals_of os) (refusals_of (o ∷ [])) r.reported w.reported);
        any_is = (λ i. r.any_is i || w.any i) ∙ sym (list_any-append (λ (p : Outcome). is_some p.refusal) os (o ∷ []));
      }

  -- it was refused, and reading ends with it
  pub reached_refusal : refused ≡ true → i.recover ≡ false → any ≡ false → WritesParts i after (WroteParts i.kind asked both) (stream bytes_of x z) true
  reached_refusal last stops quiet =
      let os = r.outcomes in
      let o = w.outcome in
      let now = reached_more in
      let t = w.after last in
      let none : any_refused os ≡ false = sym r.any_is ∙ quiet in
      let begun : PrefixSpells i.kind t.read (items_of (os ++ o ∷ [])) = subst (PrefixSpells i.kind t.read) (sym (items_more os o)) (t.begun (items_of os) (none_refused i [] os r.are none).1) in
      record {
        outcomes = os ++ o ∷ [];
        reads = record {
          read = t.read;
          rest = t.rest;
          consumed = t.consumed;
          whole = t.whole ∙ ap (λ (ps : List (List Line)). concat (all_lines ps) ++ t.rest) (sym (parts_more os o));
          are = now.are;
          begun = λ e. begun;
        };
        any = (λ i. sym quiet i || sym last i) ∙ now.any_is;
        ended = elim [ inl e ↦ (let bad : true ≡ false = sym e ∙ stops in absurd cc) | inr e ↦ absurd cc ];
        spelled = λ e. absurd cc;
        never = λ e. t.never;
        stopped = λ e f. record { front = os; last = o; whole = refl; none = none; begun = begun };
        are_written = (now.written, now.started);
        reported = now.reported;
      }

-- ---- the end

module _ {i : InputStream} {mid : Option (List ℕ)} {asked : Bool} {wrote : List Outcome → Type 0} {err : Stream} {any : Bool} {p : ItemReader} (r : Reached i mid asked wrote err any p) (quiet : i.recover ≡ false → any ≡ false) where
  none_spelled : any_refused r.outcomes ≡ false → PartsSpell i.kind (parts_of r.outcomes) (items_of r.outcomes)
  none_spelled none = (none_refused i [] r.outcomes r.are none).1

  -- the stream has ended
  pub reached_end : {after : Option (List ℕ)} → HasAll i.kind i.before after (parts_of r.outcomes) → WritesParts i after (WroteParts i.kind asked wrote) err any
  reached_end (read, consumed, all, parts) = record {
    outcomes = r.outcomes;
    reads = record {
      read = read;
      rest = [];
      consumed = consumed;
      whole = parts.whole ∙ sym (append-nil (concat (all_lines (parts_of r.outcomes))));
      are = r.are;
      begun = λ none. prefix_of i.kind read (items_of r.outcomes) (spells none);
    };
    any = r.any_is;
    ended = λ e. (all, parts);
    spelled = λ none. spells (sym r.any_is ∙ none);
    never = λ some. inr (all, λ items h. parts_none i [] r.outcomes items r.are (sym r.any_is ∙ some) ((spells_by_parts i.kind read (parts_of r.outcomes) items parts).0 h));
    stopped = λ stops some. (let none = quiet stops in absurd cc);
    are_written = (r.written, r.started);
    reported = r.reported;
  }
    where
      spells : any_refused r.outcomes ≡ false → TextSpells i.kind read (items_of r.outcomes)
      spells none = (spells_by_parts i.kind read (parts_of r.outcomes) (items_of r.outcomes) parts).1 (none_spelled none)

  -- reading or writing stopped
  pub stopped_after : (known : List Outcome → Type 0) (failed : Bool) (stop : Stop) → UnlessOutput stop failed (known r.outcomes) → StopsAfter i known failed err stop
  stopped_after known failed stop unless =
      let (read, rest, consumed, whole, begun) = parts_begin i.kind i.before mid (parts_of r.outcomes) p r.had in
      let reads : ReadsParts i mid r.outcomes = record { read = read; rest = rest; consumed = consumed; whole = whole; are = r.are; begun = λ none. begun (items_of r.outcomes) (none_spelled none) } in
      (r.outcomes, (mid, reads, λ stops. inl (sym r.any_is ∙ quiet stops)), (λ stops. sym r.any_is ∙ quiet stops), r.reported, unless)

-- ---- what is written by rows

-- one part more
pub row_texts_more : {V : Type 0} (R : Item → V → Type 0) (text_of : Outcome → List V → List ℕ) (os : List Outcome) (o : Outcome) (text : List ℕ) (rows : List V) → AreRowTexts R text_of os text → AllZip R o.items rows → AreRowTexts R text_of (os ++ o ∷ []) (text ++ text_of o rows)
row_texts_more R text_of [] o text rows none are = rw none (rows, [], are, sym (append-nil (text_of o rows)), refl)
row_texts_more R text_of (p ∷ os) o text rows (ps, rest, had, is, more) are =
    let last = text_of o rows in
    (ps, rest ++ last, had, ap (λ (x : List ℕ). x ++ last) is ∙ append_assoc (text_of p ps) rest last, row_texts_more R text_of os o rest rows more are)

-- ---- the same outcomes, the output in other words

-- what follows, unless the output is the cause
pub known_mapped : (stop : Stop) (failed : Bool) (P Q : Type 0) → (P → Q) → UnlessOutput stop failed P → UnlessOutput stop failed Q
known_mapped (Input fault) failed P Q f h = f h
known_mapped (Output fault) failed P Q f h = h
known_mapped Memory failed P Q f h = f h

pub parts_mapped : {r : InputStream} {after : Option (List ℕ)} {one other : List Outcome → Type 0} {a b : Stream} {refused : Bool} → ((os : List Outcome) → one os → other os) → ((es : List (Bool × Refusal)) → AreReported r.name a es → AreReported r.name b es) → WritesParts r after one a refused → WritesParts r after other b refused
parts_mapped f kept w = record {
  outcomes = w.outcomes;
  reads = w.reads;
  any = w.any;
  ended = w.ended;
  spelled = w.spelled;
  never = w.never;
  stopped = w.stopped;
  are_written = f w.outcomes w.are_written;
  reported = kept (refusals_of w.outcomes) w.reported;
}

pub result_mapped : (r : InputStream) (after : Option (List ℕ)) (one other known more : List Outcome → Type 0) (failed : Bool) (err : Stream) (parts : Result Bool Stop) → ((os : List Outcome) → one os → other os) → ((os : List Outcome) → known os → more os)
    → IsPartsResult r after one known failed err parts → IsPartsResult r after other more failed err parts
result_mapped r after one other known more failed err (Ok refused) f g w = parts_mapped f (λ es h. h) w
result_mapped r after one other known more failed err (Err stop) f g (os, begun, none, reported, written) = (os, begun, none, reported, known_mapped stop failed (known os) (more os) (g os) written)

-- ---- runs

-- The end of a run. The output was written in two parts, from x to y for the parts of the stream and then to z, and so were the reports.
module _ {W E : Type 0} (out_of : W → Option (List ℕ)) (err_of : E → Option (List ℕ)) (x y z : Watched W) (out_stays : has_failed y ≡ true → has_failed z ≡ true) (u v w : Watched E) (stays : has_failed v ≡ true → has_failed w ≡ true) (r : InputStream) (after : Option (List ℕ)) (so_far written known_so_far known : List Outcome → Type 0)
    (mapped : IsGivenNothing (stream out_of y z) → (os : List Outcome) → so_far os → written os) (known_so : IsGivenNothing (stream out_of y z) → (os : List Outcome) → known_so_far os → known os) where
  abbrev run : ℕ → Type 0
  run status = IsRun r after written known (stream out_of x z) (stream err_of u w) status

  whole : (refused : Bool) → IsGivenNothing (stream out_of y z) → IsGivenNothing (stream err_of v w) → WritesParts r after so_far (stream err_of u v) refused → WritesParts r after written (stream err_of u w) refused
  whole refused kept quiet = parts_mapped (mapped kept) (λ es h. reported_none err_of u v w stays r.name es h quiet)

  last_alone : (refused : Bool) (p : WritesParts r after so_far (stream err_of u v) refused) → r.recover ≡ false → (any_refused p.outcomes ≡ false) ⊎ EndsRefused r.kind p.reads.read p.outcomes
  last_alone false p stops = inl (sym p.any)
  last_alone true p stops = inr (p.stopped stops refl)

  told_then : (os : List Outcome) (P : List ℕ → Type 0) → AreReported r.name (stream err_of u v) (refusals_of os) → Reported (stream err_of v w) P → AreReportedThen r.name (stream err_of u w) (refusals_of os) P
  told_then os P reported line = reported_then err_of u v w stays r.name (refusals_of os) P reported line

  -- the output has failed
  output_ends : (fault : Error) (status : ℕ) (os : List Outcome) → IsBegun r os → AreReported r.name (stream err_of u v) (refusals_of os) → has_failed z ≡ true → EndsWithFault fault (stream err_of v w) status → run status
  output_ends fault status os begun reported bad (inl (kind, broken, quiet)) = rw broken (refl, (os, begun, bad, reported_none err_of u v w stays r.name (refusals_of os) reported quiet))
  output_ends fault status os begun reported bad (inr (kind, two, line)) = rw two (os, begun, inr (bad, (fault, kind), told_then os (IsFaultLine output_name) reported line))

  pub run_ends : (parts : Result Bool Stop) (status : ℕ) → IsPartsResult r after so_far known_so_far (has_failed y) (stream err_of u v) parts → IsPartsEnd r.name parts (stream out_of y z) (stream err_of v w) status → run status
  run_ends (Ok false) status p (inl (zero_is, kept, quiet)) = let all = whole false kept quiet p in rw zero_is (all, none_reported r (stream err_of u w) all.outcomes all.reads.are (sym all.any) all.reported)
  run_ends (Ok true) status p (inl (one_is, kept, quiet)) = rw one_is (whole true kept quiet p)
  run_ends (Ok refused) status p (inr (bad, (fault, ends))) = output_ends fault status p.outcomes (after, p.reads, last_alone refused p) p.reported bad ends
  run_ends (Err (Input fault)) status (os, begun, none, reported, so) (kept, two, line) = rw two (os, begun, inl (known_so kept os so, inl (fault, told_then os (IsReadFaultLine fault r.name) reported line)))
  run_ends (Err (Output f)) status (os, begun, none, reported, bad) (kept, ends) = output_ends f status os begun reported (out_stays bad) ends
  run_ends (Err Memory) status (os, begun, none, reported, so) (kept, two, line) = rw two (os, begun, inl (known_so kept os so, inr (told_then os IsMemoryLine reported line)))
