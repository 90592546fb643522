-- What is reported of a part more.
use Rattle.std.proofs.Common.{◌≡◌, ℕ, Bool, true, false, List, [], ◌∷◌, ◌++◌, map, is_some, option_map, Option, Some, None, if◌then◌else◌, refl, sym, ap, ◌∙◌, append_assoc, append-nil}
use Rattle.std.specs.List.{list_any, cons_option}
use Rattle.std.proofs.lemmas.Bool.{false_from_ne_true, both_ways}
use Rattle.std.proofs.lemmas.List.Folds.{list_any-append}
use Rattle.std.proofs.KnownBytes.{Appends-nil, Appends-trans, Appends-kept, Keeps-trans}
use Rattle.souper_watched.specs.Streams.{Stream, stream, IsGiven, IsGivenNothing}
use Rattle.souper_watched.specs.Watching.{has_failed}
use Rattle.souper_watched.specs.declared.Watched.{Watched}
use Rattle.souper_records.specs.Reports.{Refusal}
use Rattle.souper_records.specs.Outcomes.{refusals_of, AreErrorLines, AreReported}
use Rattle.souper_typing.specs.Rows.{flaw_lines}
use Rattle.souper_typing.specs.Parts.{Rowed, flaw_reports, part_report, text_or_none, has_flaw, is_bad, ArePartLines, ReportedParts, ReportedText}
use Rattle.souper_typing.proofs.Bools.{or_none}

lines_more : (name : List ℕ) (ps : List Rowed) (p : Rowed) (s lines : List ℕ) → ArePartLines name ps s → AreErrorLines name (refusals_of (p.outcome ∷ [])) lines → ArePartLines name (ps ++ p ∷ []) (s ++ (lines ++ text_or_none (part_report name p)))
lines_more name [] p s lines none l = (lines, [], ap (λ (x : List ℕ). x ++ (lines ++ text_or_none (part_report name p))) none ∙ ap (λ (x : List ℕ). lines ++ x) (sym (append-nil (text_or_none (part_report name p)))), l, refl)
lines_more name (q ∷ ps) p s lines (first, rest, is, one, more) l =
    let mine = lines ++ text_or_none (part_report name p) in
    let said = text_or_none (part_report name q) in (
      first,
      rest ++ mine,
      ap (λ (x : List ℕ). x ++ mine) is ∙ append_assoc first (said ++ rest) mine ∙ ap (λ (x : List ℕ). first ++ x) (append_assoc said rest mine),
      one,
      lines_more name ps p rest lines more l,
    )

quiet_refusal : (name : List ℕ) (s : Stream) (last : Bool) (e : Option Refusal) → is_some e ≡ false → AreReported name s (cons_option (option_map (λ (x : Refusal). (last, x)) e) []) → IsGivenNothing s
quiet_refusal name s last None none r = r
quiet_refusal name s last (Some e) none r = absurd cc

told : (name : List ℕ) (s : Stream) (es : List (Bool × Refusal)) → AreReported name s es → s.failed ≡ false → (text : List ℕ) × AreErrorLines name es text × IsGiven s text
told name s [] r works = ([], refl, Appends-kept s.before s.before s.after [] (Appends-nil s.before) r)
told name s (e ∷ es) r works = r works

given_text : (s : Stream) (t : Option (List ℕ)) → ReportedText s t → s.failed ≡ false → IsGiven s (text_or_none t)
given_text s None r works = Appends-kept s.before s.before s.after [] (Appends-nil s.before) r
given_text s (Some text) r works = r works

quiet_text : (s : Stream) (b : Bool) (text : List ℕ) → b ≡ false → ReportedText s (if b then Some text else None) → IsGivenNothing s
quiet_text s true text none r = absurd cc
quiet_text s false text none r = r

-- The reports of a part, of its parse error from y to z, and of its items from z to u.
module _ {E : Type 0} (bytes_of : E → Option (List ℕ)) (x y z u : Watched E) (parsed : has_failed y ≡ true → has_failed z ≡ true) (said : has_failed z ≡ true → has_failed u ≡ true) (name : List ℕ) where
  worked : has_failed u ≡ false → has_failed z ≡ false
  worked works = false_from_ne_true (has_failed z) (λ bad. both_ways (has_failed u) works (said bad))

  worked_before : has_failed u ≡ false → has_failed y ≡ false
  worked_before works = false_from_ne_true (has_failed y) (λ bad. both_ways (has_failed u) works (said (parsed bad)))

  pub reported_part : (ps : List Rowed) (p : Rowed) → ReportedParts name (stream bytes_of x y) ps → AreReported name (stream bytes_of y z) (refusals_of (p.outcome ∷ [])) → ReportedText (stream bytes_of z u) (part_report name p)
      → ReportedParts name (stream bytes_of x u) (ps ++ p ∷ [])
  reported_part ps p r a t = record {
    none = λ clean.
        (let parts = or_none (list_any is_bad ps) (list_any is_bad (p ∷ [])) (sym (list_any-append is_bad ps (p ∷ [])) ∙ clean) in
        let here = or_none (is_bad p) false parts.1 in
        let both = or_none (is_some p.outcome.refusal) (has_flaw p) here.0 in
        Keeps-trans _ _ _ (r.none parts.0) (Keeps-trans _ _ _ (quiet_refusal name (stream bytes_of y z) p.outcome.last p.outcome.refusal both.0 a) (quiet_text (stream bytes_of z u) (has_flaw p) (flaw_reports name p.outcome.starts (map flaw_lines p.rows)) both.1 t)));
    some = λ works.
        (let (s, lines, given) = r.some (worked_before works) in
        let (e, errors, more) = told name (stream bytes_of y z) (refusals_of (p.outcome ∷ [])) a (worked works) in
        (s ++ (e ++ text_or_none (part_report name p)), lines_more name ps p s e lines errors, Appends-trans _ _ _ s _ given (Appends-trans _ _ _ e _ more (given_text (stream bytes_of z u) (part_report name p) t works))));
  }

pub none_reported : (name : List ℕ) (s : Stream) → IsGivenNothing s → ReportedParts name s []
none_reported name s quiet = record { none = λ e. quiet; some = λ works. ([], refl, Appends-kept s.before s.before s.after [] (Appends-nil s.before) quiet) }
