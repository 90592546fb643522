-- Bytes begin with whole lines in one way.
use Rattle.std.proofs.Common.{◌≡◌, ℕ, List, [], ◌∷◌, ◌++◌, Option, None, Some, sym, ap, ◌∙◌, subst, inl, inr, append-nil, take, drop, take-append-drop}
use Rattle.std.specs.Prelude.{◌⊎◌, IsSomeAnd}
use Rattle.std.specs.Str.{IsUtf8}
use Rattle.souper_graph.specs.Syntax.Tokens.{IsOneLine}
use Rattle.souper_graph.specs.Syntax.Spelling.{ItemType}
use Rattle.souper_errors.specs.Places.{IsLines}
use Rattle.souper_ir.proofs.Items.Joining.{newline_last, parted_twice, lines_end}
use Rattle.souper_calls.specs.Kinds.{type_of_number}
use Rattle.souper_stream.specs.Segments.{HasBadLine}
use Rattle.souper_stream.proofs.Cutting.{utf8_has_no_bad_line}
use Rattle.souper_calls.specs.Cuts.{OfLines, OfWholeLines, IsLastCut, CutsLast, HasBadStart}

one_line_front : (r s : List ℕ) → IsOneLine (r ++ s) → IsOneLine r
one_line_front [] s h = tt
one_line_front (c ∷ r) s h = (h.0, one_line_front r s h.1)

no_line : (r : List ℕ) → IsOneLine r → IsLines r → r ≡ []
no_line r one (inl e) = e
no_line r one (inr end) = absurd (newline_last end.0 (subst (λ (x : List ℕ). IsOneLine x) end.1 one))

one_way : (a b c d : List ℕ) → a ++ b ≡ c ++ d → IsLines a → IsOneLine b → IsLines c → IsOneLine d → a ≡ c
one_way a b c d e lines one lines_too one_too = elim (parted_twice a b c d e) [
  | inl w ↦
      let none : w.left ≡ [] = no_line w.left (one_line_front w.left d (subst (λ (x : List ℕ). IsOneLine x) w.second one)) (lines_end a w.left (subst (λ (x : List ℕ). IsLines x) w.first lines_too)) in
      sym (w.first ∙ ap (λ (x : List ℕ). a ++ x) none ∙ append-nil a)
  | inr w ↦
      let none : w.more ≡ [] = no_line w.more (one_line_front w.more b (subst (λ (x : List ℕ). IsOneLine x) w.second one_too)) (lines_end c w.more (subst (λ (x : List ℕ). IsLines x) w.first lines)) in
      w.first ∙ ap (λ (x : List ℕ). c ++ x) none ∙ append-nil c
]

-- whole lines that are UTF-8 are not others that are not
pub no_other_lines : (bytes : List ℕ) (n : ℕ) → IsLines (take n bytes) → IsOneLine (drop n bytes) → IsUtf8 (take n bytes) → OfWholeLines bytes (λ lines. ¬ (IsUtf8 lines)) → ⊥
no_other_lines bytes n lines one utf8 (others, rest, e, others_lines, others_one, bad) =
    bad (subst (λ (x : List ℕ). IsUtf8 x) (one_way (take n bytes) (drop n bytes) others rest (take-append-drop n bytes ∙ e) lines one others_lines others_one) utf8)

-- the last cut point of the whole lines
pub cuts_last : (kind : ℕ) (k : ItemType) (bytes source : List ℕ) (n offset : ℕ) → type_of_number kind ≡ Some k → source ≡ take n bytes → IsLines (take n bytes) → IsOneLine (drop n bytes)
    → (IsLines source → OfLines source (IsLastCut k offset)) → CutsLast kind bytes offset
cuts_last kind k bytes source n offset is_kind is_source lines one last =
    subst (λ (o : Option ItemType). IsSomeAnd o (λ (k : ItemType). OfWholeLines bytes (λ lines. OfLines lines (IsLastCut k offset)))) (sym is_kind)
    (take n bytes, drop n bytes, sym (take-append-drop n bytes), lines, one, subst (λ (x : List ℕ). OfLines x (IsLastCut k offset)) is_source (last (subst (λ (x : List ℕ). IsLines x) (sym is_source) lines)))

-- a text that is UTF-8 has a first segment
no_bad_start : (o : Option ItemType) (text : List ℕ) → IsSomeAnd o (λ (k : ItemType). OfLines text (HasBadLine k)) → IsUtf8 text → ⊥
no_bad_start None text h utf8 = h
no_bad_start (Some k) text h utf8 = utf8_has_no_bad_line k text utf8 h

pub segment_is_found : (kind : ℕ) (text : List ℕ) (status : ℕ) → (status ≡ 0) ⊎ (status ≡ 2) ⊎ (status ≡ 4) → (status ≡ 2 → ⊥) → (status ≡ 4 → HasBadStart kind text) → IsUtf8 text → status ≡ 0
segment_is_found kind text status (inl done) no_kind no_text utf8 = done
segment_is_found kind text status (inr (inl two)) no_kind no_text utf8 = absurd (no_kind two)
segment_is_found kind text status (inr (inr four)) no_kind no_text utf8 = absurd (no_bad_start (type_of_number kind) text (no_text four) utf8)
