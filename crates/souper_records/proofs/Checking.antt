-- Canonical streams. A text has one list of items, so it is canonical or not.
use Rattle.std.proofs.Common.{inl, inr, ℕ, Bool, false, List, [], Option, refl, sym, ap, ◌∙◌, subst}
use Rattle.souper_errors.specs.declared.kind.Kind.{Kind}
use Rattle.std.proofs.KnownBytes.{Appends-nil, Appends-trans, Appends-kept}
use Rattle.souper_records.proofs.Prelude.{Item, ItemType, TextSpells, texts_of, concat, all_lines, Watched, Stream, stream, IsGiven, IsGivenNothing}
use Rattle.souper_ir.proofs.Items.Lists.{text_alone}
use Rattle.souper_diff.specs.declared.comparison.Comparison.{Comparison}
use Rattle.souper_diff.specs.Comparisons.{DifferFrom, IsCompared}
use Rattle.souper_records.specs.Canonical.{other_line, ReportedOtherLine, IsWhole, IsCheckRun}
use Rattle.souper_records.specs.Outcomes.{parts_of, items_of, WritesParts, WroteParts}
use Rattle.souper_watched.specs.Streams.{Reported}
use Rattle.souper_records.specs.Reports.{IsMemoryLine}
use Rattle.souper_records.proofs.Outcomes.{none_reported}

-- the whole stream was read, and compared with the canonical texts of the items that it spells
pub record IsChecked (k : ItemType) (before after : Option (List ℕ)) (c : Comparison) : Type 0 where
  pub read : List ℕ
  pub whole : IsWhole before after read
  pub items : List Item
  pub spelled : TextSpells k read items
  pub compared : IsCompared c read (texts_of items)

pub checked_parts : {X : Type 0} {asked : Bool} (k : ItemType) (name : List ℕ) (hints : Option Kind) (before after : Option (List ℕ)) (c : Comparison) (err : Stream)
    → WritesParts (record { kind = k; name = name; recover = false; hints = hints; before = before }) after (WroteParts k asked (λ os. X × IsCompared c (concat (all_lines (parts_of os))) (texts_of (items_of os)))) err false → IsChecked k before after c × IsGivenNothing err
checked_parts k name hints before after c err p =
    let (all, parts) = p.ended (inr refl) in
    let os = p.outcomes in (
      record {
        read = p.reads.read;
        whole = (p.reads.consumed, all);
        items = items_of os;
        spelled = p.spelled refl;
        compared = subst (λ (x : List ℕ). IsCompared c x (texts_of (items_of os))) (sym parts.whole) p.are_written.0.1;
      },
      none_reported (record { kind = k; name = name; recover = false; hints = hints; before = before }) err os p.reads.are (sym p.any) p.reported,
    )

-- The reports come after none.
module _ {E : Type 0} (err_of : E → Option (List ℕ)) (x y z : Watched E) (quiet : IsGivenNothing (stream err_of x y)) where
  given_after : (bytes : List ℕ) → IsGiven (stream err_of y z) bytes → IsGiven (stream err_of x z) bytes
  given_after bytes given = Appends-trans _ _ _ [] bytes (Appends-kept _ _ _ [] (Appends-nil _) quiet) given

  pub reported_after : (P : List ℕ → Type 0) → Reported (stream err_of y z) P → Reported (stream err_of x z) P
  reported_after P r works = let (line, is, given) = r works in (line, is, given_after line given)

  module _ (k : ItemType) (name : List ℕ) (hints : Option Kind) (before after : Option (List ℕ)) where
    abbrev run : ℕ → Type 0
    run status = IsCheckRun k name hints before after (stream err_of x z) status

    -- a text that differs
    pub check_other : (c : Comparison) (line status : ℕ) → (h : IsChecked k before after c) → DifferFrom h.read (texts_of h.items) line → ReportedOtherLine name line (stream err_of y z) status → run status
    check_other c line status h differs (inl (one, says)) =
        rw one (inl (h.read, h.whole, (λ canonical. differs.0 (canonical.2 ∙ ap texts_of (text_alone k h.read canonical.0 h.items canonical.1 h.spelled))), (line, (λ small. (h.items, h.spelled, differs.1 small)), λ works. given_after (other_line name line) (says works))))
    check_other c line status h differs (inr (two, memory)) = rw two (inr (reported_after IsMemoryLine memory))
