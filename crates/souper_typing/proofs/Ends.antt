-- How reading a stream ends whose items are written with their widths, and the status.
use Rattle.std.proofs.Common.{◌≡◌, ◌⊎◌, inl, inr, ◌||◌, ℕ, Bool, true, false, List, [], ◌∷◌, ◌++◌, Option, None, Result, Ok, Err, refl, sym, ap, ◌∙◌, subst}
use Rattle.std.specs.declared.io.Error.{Error}
use Rattle.std.specs.List.{list_any}
use Rattle.std.proofs.lemmas.Bool.{false_from_ne_true, both_ways}
use Rattle.std.proofs.KnownBytes.{Appends-trans, Appends-kept, Keeps-trans}
use Rattle.souper_watched.specs.Streams.{Stream, stream, IsGivenNothing}
use Rattle.souper_watched.specs.Watching.{has_failed}
use Rattle.souper_watched.specs.Streams.{Reported}
use Rattle.souper_watched.specs.declared.Watched.{Watched}
use Rattle.souper_stream.specs.declared.reader.ItemReader.{ItemReader}
use Rattle.souper_stream.specs.Parts.{HasAll, keeps_starts}
use Rattle.souper_typed.specs.declared.form.Form.{Form}
use Rattle.souper_records.specs.declared.stop.Stop.{Stop}
use Rattle.souper_records.specs.declared.stop.Stop.TheVariants.{Input, Output, Memory}
use Rattle.souper_records.specs.Stops.{UnlessOutput}
use Rattle.souper_records.specs.Reports.{IsMemoryLine, IsFaultLine, IsReadFaultLine}
use Rattle.souper_records.specs.Runs.{output_name, EndsWithFault, IsPartsEnd}
use Rattle.souper_records.specs.Outcomes.{InputStream, Outcome, any_refused, parts_of, HaveItemStarts, WritesPart, WritesParts, EndsRefused, IsBegun}
use Rattle.souper_records.proofs.Outcomes.{Reached, reached_more, reached_refusal, reached_end, stopped_after, parts_mapped, known_mapped}
use Rattle.souper_typing.specs.Parts.{Rowed, outcomes_of, typed_outcomes, any_untyped, is_bad, ReportedParts}
use Rattle.souper_typing.specs.Results.{unsaid, TypesOutcomes, TypesParts, TypesBegun, StopsTyping, IsTypingResult}
use Rattle.souper_typing.specs.Runs.{ReportedPartsThen, IsTypingRun}
use Rattle.souper_typing.proofs.Bools.{or_none}
use Rattle.souper_typing.proofs.Stepping.{Stepped, types_more, lost}

-- ---- parts

-- the stream has ended
pub typed_end : (i : InputStream) (f : Form) (mid after : Option (List ℕ)) (written : List Outcome → Type 0) (err : Stream) (refused untyped : Bool) (p : ItemReader) → (r : Reached i mid true (TypesOutcomes i f written err untyped) unsaid refused p) → (i.recover ≡ false → (refused || untyped) ≡ false)
    → HasAll i.kind i.before after (parts_of r.outcomes) → TypesParts i f after written err (refused || untyped)
typed_end i f mid after written err refused untyped p r quiet all =
    inl (refused, untyped, refl, parts_mapped (λ os w. (w.0, w.1 refl)) (λ es h. h) (reached_end r (λ stops. (or_none refused untyped (quiet stops)).0) all))

-- the stream begins with the parts
types_begun : (i : InputStream) (f : Form) (written : List Outcome → Type 0) (err : Stream) (untyped : Bool) (os : List Outcome) → IsBegun i os → HaveItemStarts i.kind [] os → (t : TypesOutcomes i f written err untyped os) → TypesBegun i f t.parts
types_begun i f written err untyped os begun starts t = record {
  begun = subst (IsBegun i) (sym t.are) begun;
  taken = t.taken;
  first = t.first;
  starts = subst (HaveItemStarts i.kind []) (sym t.are) starts;
}

-- reading or writing has stopped
typed_stop : (i : InputStream) (f : Form) (mid : Option (List ℕ)) (written known : List Outcome → Type 0) (err : Stream) (refused untyped failed : Bool) (p : ItemReader) (stop : Stop) → Reached i mid true (TypesOutcomes i f written err untyped) unsaid refused p → (i.recover ≡ false → (refused || untyped) ≡ false)
    → ((os : List Outcome) → written os → UnlessOutput stop failed (known os)) → StopsTyping i f known failed err stop
typed_stop i f mid written known err refused untyped failed p stop r quiet unless =
    let K : List Outcome → Type 0 = λ os. TypesOutcomes i f written err untyped os × HaveItemStarts i.kind [] os in
    let (os, begun, none, reported, k) = stopped_after r (λ stops. (or_none refused untyped (quiet stops)).0) K false Memory (r.written, r.started refl) in
    let t = k.0 in
    (t.parts, types_begun i f written err untyped os begun k.1 t, t.reported, unless (typed_outcomes t.parts) t.are_written)

-- the same, given what the sink had written, and that nothing was written since unless the output is the cause
pub typed_stopped : {S W : Type 0} (i : InputStream) (f : Form) (mid : Option (List ℕ)) (err : Stream) (refused untyped failed : Bool) (p : ItemReader) (stop : Stop) (wrote : S → W → List Outcome → Type 0) (s : S) (old new : W)
    → Reached i mid true (TypesOutcomes i f (wrote s old) err untyped) unsaid refused p → (i.recover ≡ false → (refused || untyped) ≡ false) → UnlessOutput stop failed (new ≡ old) → StopsTyping i f (λ os. (t : S) × wrote t new os) failed err stop
typed_stopped {S} {W} i f mid err refused untyped failed p stop wrote s old new r quiet unless =
    typed_stop i f mid (wrote s old) (λ os. (t : S) × wrote t new os) err refused untyped failed p stop r quiet
    (λ os h. known_mapped stop failed (new ≡ old) ((t : S) × wrote t new os) (λ same. (s, subst (λ (w : W). wrote s w os) (sym same) h)) unless)

-- one part more
module _ {S E : Type 0} (i : InputStream) (f : Form) (mid after : Option (List ℕ)) (wrote : List ℕ → S → Option (List ℕ) → S → Option (List ℕ) → List Outcome → Type 0)
    (joins : (a b c : S) (x y z : Option (List ℕ)) (os qs : List Outcome) → wrote i.name a x b y os → wrote i.name b y c z qs → wrote i.name a x c z (os ++ qs))
    (bytes_of : E → Option (List ℕ)) (a b c : S) (j k l : Option (List ℕ)) (x y z u : Watched E) (parsed : has_failed y ≡ true → has_failed z ≡ true) (said : has_failed z ≡ true → has_failed u ≡ true) where
  typed_more : (refused untyped rejected more : Bool) (p q : ItemReader) → keeps_starts q ≡ true → (i.recover ≡ false → untyped ≡ false) → (r : Reached i mid true (TypesOutcomes i f (wrote i.name a j b k) (stream bytes_of x y) untyped) unsaid refused p)
      → WritesPart i after (parts_of r.outcomes) (Stepped i.recover f i.name (wrote i.name b k c l) (stream bytes_of y z) (stream bytes_of z u) more) unsaid rejected q
      → Reached i after true (TypesOutcomes i f (wrote i.name a j c l) (stream bytes_of x u) (untyped || more)) unsaid (refused || rejected) q
  typed_more refused untyped rejected more p q same calm r w =
      reached_more {E = Unit {0}} (λ n. None) lost lost lost (λ e. e) same (λ os o t s. types_more i f wrote joins bytes_of a b c j k l x y z u parsed said untyped more calm os o t s) r w

  pub typed_reached : (refused untyped rejected more : Bool) (p q : ItemReader) → keeps_starts q ≡ true → (i.recover ≡ false → untyped ≡ false) → (r : Reached i mid true (TypesOutcomes i f (wrote i.name a j b k) (stream bytes_of x y) untyped) unsaid refused p)
      → WritesPart i after (parts_of r.outcomes) (Stepped i.recover f i.name (wrote i.name b k c l) (stream bytes_of y z) (stream bytes_of z u) more) unsaid rejected q
      → Reached i after true (TypesOutcomes i f (wrote i.name a j c l) (stream bytes_of x u) (untyped || more)) unsaid (refused || rejected) q
  typed_reached refused untyped rejected more p q same calm r w = typed_more refused untyped rejected more p q same calm r w

  -- without recovery it is the last, if it is rejected or an item has no widths
  pub typed_last : (refused untyped rejected more : Bool) (p q : ItemReader) → keeps_starts q ≡ true → (r : Reached i mid true (TypesOutcomes i f (wrote i.name a j b k) (stream bytes_of x y) untyped) unsaid refused p)
      → WritesPart i after (parts_of r.outcomes) (Stepped i.recover f i.name (wrote i.name b k c l) (stream bytes_of y z) (stream bytes_of z u) more) unsaid rejected q
      → i.recover ≡ false → (refused || untyped) ≡ false → (rejected || more) ≡ true → TypesParts i f after (wrote i.name a j c l) (stream bytes_of x u) true
  typed_last refused untyped true more p q same r w stops quiet bad =
      inl (
        true,
        untyped || more,
        refl,
        parts_mapped (λ os h. (h.0, h.1 refl)) (λ es h. h)
            (reached_refusal {E = Unit {0}} (λ n. None) lost lost lost (λ e. e) same (λ os o t s. types_more i f wrote joins bytes_of a b c j k l x y z u parsed said untyped more (λ e. (or_none refused untyped quiet).1) os o t s) r w refl stops (or_none refused untyped quiet).0),
      )
  typed_last refused untyped false more p q same r w stops quiet bad =
      let none = or_none refused untyped quiet in
      let now = typed_more refused untyped false more p q same (λ e. none.1) r w in
      let K : List Outcome → Type 0 = λ os. TypesOutcomes i f (wrote i.name a j c l) (stream bytes_of x u) (untyped || more) os × HaveItemStarts i.kind [] os in
      let calm : (refused || false) ≡ false = (λ n. none.0 n || false) in
      let (os, begun, unrefused, reported, known) = stopped_after now (λ e. calm) K false Memory (now.written, now.started refl) in
      let some : (untyped || more) ≡ true = (λ n. none.1 n || bad n) in
      inr (stops, refl, (os, begun, unrefused stops, subst (λ (v : Bool). TypesOutcomes i f (wrote i.name a j c l) (stream bytes_of x u) v os) some known.0, known.1))

-- ---- runs

-- The end of a run. The output was written in two parts, from x to y for the parts of the stream and then to z, and so were the reports.
module _ {W E : Type 0} (out_of : W → Option (List ℕ)) (err_of : E → Option (List ℕ)) (x y z : Watched W) (out_stays : has_failed y ≡ true → has_failed z ≡ true) (u v w : Watched E) (stays : has_failed v ≡ true → has_failed w ≡ true) (r : InputStream) (f : Form) (after : Option (List ℕ)) (so_far written known_so_far known : List Outcome → Type 0)
    (mapped : IsGivenNothing (stream out_of y z) → (os : List Outcome) → so_far os → written os) (known_so : IsGivenNothing (stream out_of y z) → (os : List Outcome) → known_so_far os → known os) where
  abbrev run : ℕ → Type 0
  run status = IsTypingRun r f after written known (stream out_of x z) (stream err_of u w) status

  works_before : has_failed w ≡ false → has_failed v ≡ false
  works_before works = false_from_ne_true (has_failed v) (λ bad. both_ways (has_failed w) works (stays bad))

  quiet_after : (parts : List Rowed) → IsGivenNothing (stream err_of v w) → ReportedParts r.name (stream err_of u v) parts → ReportedParts r.name (stream err_of u w) parts
  quiet_after parts quiet p = record {
    none = λ clean. Keeps-trans _ _ _ (p.none clean) quiet;
    some = λ works. (let (s, lines, given) = p.some (works_before works) in (s, lines, Appends-kept _ _ _ s given quiet));
  }

  then_line : (parts : List Rowed) (P : List ℕ → Type 0) → ReportedParts r.name (stream err_of u v) parts → Reported (stream err_of v w) P → ReportedPartsThen r.name (stream err_of u w) parts P
  then_line parts P p h = λ works.
      let (s, lines, given) = p.some (works_before works) in
      let (line, is, more) = h works in
      (s, line, lines, is, Appends-trans _ _ _ s line given more)

  outcomes_after : (untyped : Bool) (os : List Outcome) → IsGivenNothing (stream out_of y z) → IsGivenNothing (stream err_of v w) → TypesOutcomes r f so_far (stream err_of u v) untyped os → TypesOutcomes r f written (stream err_of u w) untyped os
  outcomes_after untyped os kept quiet t = record {
    parts = t.parts;
    are = t.are;
    taken = t.taken;
    are_written = mapped kept (typed_outcomes t.parts) t.are_written;
    reported = quiet_after t.parts quiet t.reported;
    any = t.any;
    first = t.first;
  }

  whole : (bad : Bool) → IsGivenNothing (stream out_of y z) → IsGivenNothing (stream err_of v w) → TypesParts r f after so_far (stream err_of u v) bad → TypesParts r f after written (stream err_of u w) bad
  whole bad kept quiet (inl (refused, untyped, is, p)) = inl (refused, untyped, is, parts_mapped (λ os h. (outcomes_after untyped os kept quiet h.0, h.1)) (λ es h. h) p)
  whole bad kept quiet (inr (stops, is, (os, begun, none, t, starts))) = inr (stops, is, (os, begun, none, outcomes_after true os kept quiet t, starts))

  last_alone : (refused : Bool) (written : List Outcome → Type 0) (err : Stream) (p : WritesParts r after written err refused) → r.recover ≡ false → (any_refused p.outcomes ≡ false) ⊎ EndsRefused r.kind p.reads.read p.outcomes
  last_alone false written err p stops = inl (sym p.any)
  last_alone true written err p stops = inr (p.stopped stops refl)

  -- the parts that were read, and what was reported of them
  reached_parts : (bad : Bool) → TypesParts r f after so_far (stream err_of u v) bad → (parts : List Rowed) × TypesBegun r f parts × ReportedParts r.name (stream err_of u v) parts
  reached_parts bad (inl (refused, untyped, is, p)) =
      let t = p.are_written.0 in
      (t.parts, types_begun r f so_far (stream err_of u v) untyped p.outcomes (after, p.reads, last_alone refused _ _ p) p.are_written.1 t, t.reported)
  reached_parts bad (inr (stops, is, (os, begun, none, t, starts))) = (t.parts, types_begun r f so_far (stream err_of u v) true os begun starts t, t.reported)

  -- the output has failed
  output_ends : (fault : Error) (status : ℕ) (parts : List Rowed) → TypesBegun r f parts → ReportedParts r.name (stream err_of u v) parts → has_failed z ≡ true → EndsWithFault fault (stream err_of v w) status → run status
  output_ends fault status parts begun reported bad (inl (kind, broken, quiet)) = rw broken (refl, (parts, begun, bad, quiet_after parts quiet reported))
  output_ends fault status parts begun reported bad (inr (kind, two, line)) = rw two (parts, begun, inr (bad, (fault, kind), then_line parts (IsFaultLine output_name) reported line))

  silent : TypesParts r f after written (stream err_of u w) false → IsGivenNothing (stream err_of u w)
  silent (inl (refused, untyped, is, p)) =
      let t = p.are_written.0 in
      let none = or_none refused untyped (sym is) in
      t.reported.none (clean_parts t.parts (ap any_refused t.are ∙ sym p.any ∙ none.0) (sym t.any ∙ none.1))
    where
      clean_parts : (parts : List Rowed) → any_refused (outcomes_of parts) ≡ false → any_untyped parts ≡ false → list_any is_bad parts ≡ false
      clean_parts [] a b = refl
      clean_parts (q ∷ qs) a b = let m = or_none _ _ a in let n = or_none _ _ b in (λ k. (m.0 k || n.0 k) || clean_parts qs m.1 n.1 k)
  silent (inr (stops, is, more)) = absurd cc

  pub typing_ends : (parts : Result Bool Stop) (status : ℕ) → IsTypingResult r f after so_far known_so_far (has_failed y) (stream err_of u v) parts → IsPartsEnd r.name parts (stream out_of y z) (stream err_of v w) status → run status
  typing_ends (Ok false) status p (inl (zero_is, kept, quiet)) = let all = whole false kept quiet p in rw zero_is (all, silent all)
  typing_ends (Ok true) status p (inl (one_is, kept, quiet)) = rw one_is (whole true kept quiet p)
  typing_ends (Ok bad) status p (inr (failed, (fault, ends))) = let (parts, begun, reported) = reached_parts bad p in output_ends fault status parts begun reported failed ends
  typing_ends (Err (Input fault)) status (parts, begun, reported, so) (kept, two, line) =
      rw two (parts, begun, inl (known_so kept (typed_outcomes parts) so, inl (fault, then_line parts (IsReadFaultLine fault r.name) reported line)))
  typing_ends (Err (Output g)) status (parts, begun, reported, so) (kept, ends) = output_ends g status parts begun reported (out_stays so) ends
  typing_ends (Err Memory) status (parts, begun, reported, so) (kept, two, line) =
      rw two (parts, begun, inl (known_so kept (typed_outcomes parts) so, inr (then_line parts IsMemoryLine reported line)))
