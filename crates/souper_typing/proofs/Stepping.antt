-- Part after part of a stream whose items are written with their widths.
use Rattle.std.proofs.Common.{◌≡◌, inr, ◌||◌, ℕ, Bool, true, false, List, [], ◌∷◌, ◌++◌, Option, None, Some, option_map, is_some, refl, sym, ap, ◌∙◌, subst, String, string_bytes}
use Rattle.std.specs.declared.alloc.Global.{Global}
use Rattle.std.proofs.lemmas.List.{map-append}
use Rattle.std.proofs.lemmas.List.Folds.{list_any-append}
use Rattle.std.proofs.KnownBytes.{Keeps-refl}
use Rattle.souper_graph.proofs.Judging.Closed.{All-both}
use Rattle.souper_watched.specs.Streams.{Stream, stream}
use Rattle.souper_watched.specs.Watching.{has_failed}
use Rattle.souper_watched.specs.declared.Watched.{Watched}
use Rattle.souper_stream.specs.declared.reader.ItemReader.{ItemReader}
use Rattle.souper_stream.specs.Segments.{Line}
use Rattle.souper_typed.specs.declared.form.Form.{Form}
use Rattle.souper_records.specs.Reports.{Refusal}
use Rattle.souper_records.specs.Outcomes.{InputStream, Outcome, refusals_of, AreReported, WritesPart}
use Rattle.souper_typing.specs.Rows.{IsTaken}
use Rattle.souper_typing.specs.Parts.{Rowed, outcomes_of, typed_outcome, typed_outcomes, AreTaken, has_flaw, any_untyped, part_report, ReportedText}
use Rattle.souper_typing.specs.declared.widened.Widened.{Widened}
use Rattle.souper_typing.specs.Widened.{EndsWithReport, WidenedWrote}
use Rattle.souper_typing.specs.Results.{unsaid, TypesOutcomes}
use Rattle.souper_typing.proofs.Bools.{or_false, some_if}
use Rattle.souper_typing.proofs.Reporting.{reported_part}

-- what one part did
pub record Stepped (recover : Bool) (f : Form) (name : List ℕ) (written : List Outcome → Type 0) (parse err : Stream) (untyped : Bool) (o : Outcome) : Type 0 where
  pub part : Rowed
  pub is : part.outcome ≡ o
  pub taken : IsTaken recover f part.outcome.items part.rows
  pub are_written : written (typed_outcome part ∷ [])
  pub parsed : AreReported name parse (refusals_of (o ∷ []))
  pub reported : ReportedText err (part_report name part)
  pub any : untyped ≡ has_flaw part

-- the only part
pub only_part : (recover : Bool) (f : Form) (name : List ℕ) (written : List Outcome → Type 0) (parse err : Stream) (report : Option (List ℕ)) (untyped : Bool) (o : Outcome) (parts : List Rowed)
    → outcomes_of parts ≡ o ∷ [] → AreTaken recover f parts → written (typed_outcomes parts) → EndsWithReport name report parts
    → AreReported name parse (refusals_of (o ∷ [])) → ReportedText err report → ((p : Rowed) → report ≡ part_report name p → untyped ≡ has_flaw p) → Stepped recover f name written parse err untyped o
only_part recover f name written parse err report untyped o [] e t w last parsed said flawed = absurd cc
only_part recover f name written parse err report untyped o (p ∷ []) e t w last parsed said flawed = record {
  part = p;
  is = first_same e;
  taken = t.0;
  are_written = w;
  parsed = parsed;
  reported = subst (ReportedText err) last said;
  any = flawed p last;
}
  where
    first_same : {x y : Outcome} → x ∷ [] ≡ y ∷ [] → x ≡ y
    first_same e = cc
only_part recover f name written parse err report untyped o (p ∷ q ∷ parts) e t w last parsed said flawed = absurd cc

some_view : (t : Option (String Global)) → is_some t ≡ is_some (option_map string_bytes t)
some_view None = refl
some_view (Some text) = refl

-- no part was written yet
pub begun : {S : Type 0} (wrote : List ℕ → S → Option (List ℕ) → S → Option (List ℕ) → List Outcome → Type 0) (name : List ℕ) (a : Widened S) (x : Option (List ℕ)) → wrote name a.inner x a.inner x [] → WidenedWrote wrote name a x a x []
begun wrote name a x h = record { form = refl; recover = refl; parts = []; are = refl; taken = tt; inner = h; last = tt }

-- what the sink wrote of one part
pub step_of : {S : Type 0} (wrote : List ℕ → S → Option (List ℕ) → S → Option (List ℕ) → List Outcome → Type 0) (name : List ℕ) (recover : Bool) (f : Form) (a b : Widened S) (x y : Option (List ℕ)) (parse err : Stream) (untyped : Bool) (o : Outcome)
    → a.recover ≡ recover → a.form ≡ f → untyped ≡ is_some b.report → ReportedText err (option_map string_bytes b.report) → WidenedWrote wrote name a x b y (o ∷ []) → AreReported name parse (refusals_of (o ∷ []))
    → Stepped recover f name (wrote name a.inner x b.inner y) parse err untyped o
step_of wrote name recover f a b x y parse err untyped o r q is said w parsed =
    only_part recover f name (wrote name a.inner x b.inner y) parse err (option_map string_bytes b.report) untyped o w.parts w.are
    (subst (λ (v : Bool). AreTaken v f w.parts) r (subst (λ (v : Form). AreTaken a.recover v w.parts) q w.taken)) w.inner w.last parsed said
    (λ p last. is ∙ some_view b.report ∙ some_if (has_flaw p) _ _ last)

module _ {S E : Type 0} (i : InputStream) (f : Form) (wrote : List ℕ → S → Option (List ℕ) → S → Option (List ℕ) → List Outcome → Type 0)
    (joins : (a b c : S) (x y z : Option (List ℕ)) (os qs : List Outcome) → wrote i.name a x b y os → wrote i.name b y c z qs → wrote i.name a x c z (os ++ qs))
    (bytes_of : E → Option (List ℕ)) (a b c : S) (j k l : Option (List ℕ)) (x y z u : Watched E) (parsed : has_failed y ≡ true → has_failed z ≡ true) (said : has_failed z ≡ true → has_failed u ≡ true) (untyped more : Bool) (calm : i.recover ≡ false → untyped ≡ false) where
  pub types_more : (os : List Outcome) (o : Outcome) → TypesOutcomes i f (wrote i.name a j b k) (stream bytes_of x y) untyped os → Stepped i.recover f i.name (wrote i.name b k c l) (stream bytes_of y z) (stream bytes_of z u) more o
      → TypesOutcomes i f (wrote i.name a j c l) (stream bytes_of x u) (untyped || more) (os ++ o ∷ [])
  types_more os o t s = record {
    parts = t.parts ++ s.part ∷ [];
    are = map-append (λ (p : Rowed). p.outcome) t.parts (s.part ∷ []) ∙ (λ n. t.are n ++ s.is n ∷ []);
    taken = All-both (λ (p : Rowed). IsTaken i.recover f p.outcome.items p.rows) t.parts (s.part ∷ []) t.taken (s.taken, tt);
    are_written = subst (wrote i.name a j c l) (sym (map-append typed_outcome t.parts (s.part ∷ []))) (joins a b c j k l (typed_outcomes t.parts) (typed_outcome s.part ∷ []) t.are_written s.are_written);
    reported = reported_part bytes_of x y z u parsed said i.name t.parts s.part t.reported (subst (λ (q : Outcome). AreReported i.name (stream bytes_of y z) (refusals_of (q ∷ []))) (sym s.is) s.parsed) s.reported;
    any = (λ n. t.any n || s.any n) ∙ ap (λ (q : Bool). any_untyped t.parts || q) (sym (or_false (has_flaw s.part))) ∙ sym (list_any-append has_flaw t.parts (s.part ∷ []));
    first = λ stops. inr (record { front = t.parts; last = s.part; whole = refl; none = sym t.any ∙ calm stops });
  }

-- ---- without the reports

abbrev pub lost : Watched (Unit {0})
lost = record { inner = tt; failed = true; ended = false }

untold : (name : List ℕ) (es : List (Bool × Refusal)) → AreReported name unsaid es
untold name [] = Keeps-refl None
untold name (e ∷ es) = λ works. absurd cc

pub part_unsaid : (i : InputStream) {now : Option (List ℕ)} {ps : List (List Line)} {written more : Outcome → Type 0} {err : Stream} {refused : Bool} {reader : ItemReader} → ((o : Outcome) → written o → AreReported i.name err (refusals_of (o ∷ [])) → more o)
    → WritesPart i now ps written err refused reader → WritesPart i now ps more unsaid refused reader
part_unsaid i f w = record {
  outcome = w.outcome;
  had = w.had;
  is = w.is;
  begin = w.begin;
  any = w.any;
  after = w.after;
  are_written = f w.outcome w.are_written w.reported;
  reported = untold i.name (refusals_of (w.outcome ∷ []));
}
