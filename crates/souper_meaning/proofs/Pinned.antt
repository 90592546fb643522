-- The numbers that conditions leave: one pin, and all by the statements with their positions.
use Rattle.std.proofs.Common.{◌≡◌, ◌∙◌, ℕ, ◌+◌, ◌<◌, Bool, cond, List, [], ◌∷◌, Some, length, map, refl, sym, ap, inl, inr}
use Rattle.std.specs.Prelude.{slice_index_or, slice_set}
use Rattle.std.specs.List.{enumerate_from}
use Rattle.std.proofs.lemmas.List.{get_or-set_same, get_or-set_other}
use Rattle.std.proofs.lemmas.Bool.Decides.{eqb_tells}
use Rattle.souper_graph.specs.declared.ast.statements.Statement.{Statement}
use Rattle.souper_graph.specs.View.{view_statement}
use Rattle.souper_graph.specs.Values.{Item}
use Rattle.souper_widths.specs.Maps.{WidthMap, result_width}
use Rattle.souper_meaning.specs.declared.spans.Span.{Span}
use Rattle.souper_meaning.specs.declared.pins.Pin.{Pin}
use Rattle.souper_meaning.specs.Pins.{unsaid, pin_of, shared, pinned_by, pinned_from}

abbrev pub pinned_among : Item → WidthMap → ℕ → Span → List (ℕ × Statement) → Span
pinned_among a m p s [] = s
pinned_among a m p s (q ∷ qs) = pinned_among a m p (pinned_by m p s (pin_of a m (view_statement q.1))) qs

pub pinned_among_all : (a : Item) (m : WidthMap) (p : ℕ) (s : Span) (k : ℕ) (ss : List Statement) → pinned_among a m p s (enumerate_from k ss) ≡ pinned_from a m p s (map view_statement ss)
pinned_among_all a m p s k [] = refl
pinned_among_all a m p s k (x ∷ xs) = pinned_among_all a m p (pinned_by m p s (pin_of a m (view_statement x))) (k + 1) xs

-- the pinned position has what its pin leaves, and the others keep theirs
pub narrowed : (m : WidthMap) (ns : List Span) (q : Pin) (r : Span) (w p : ℕ) → q.position < length ns → w ≡ result_width m q.position → r ≡ shared w (slice_index_or ns q.position unsaid) q.numbers
    → slice_index_or (slice_set ns q.position r) p unsaid ≡ pinned_by m p (slice_index_or ns p unsaid) (Some q)
narrowed m ns q r w p l e f =
    let s : Span = slice_index_or ns p unsaid in
    let x : Span = shared (result_width m p) s q.numbers in
    elim (eqb_tells q.position p) [
      | inl t ↦
          let g : pinned_by m p s (Some q) ≡ x = ap (λ (b : Bool). cond b x s) t.0 in
          let h : r ≡ x =
          f ∙ ap (λ (v : ℕ). shared v (slice_index_or ns q.position unsaid) q.numbers) e ∙ ap (λ (i : ℕ). shared (result_width m i) (slice_index_or ns i unsaid) q.numbers) t.1
          in
          ap (λ (i : ℕ). slice_index_or (slice_set ns q.position r) i unsaid) (sym t.1) ∙ get_or-set_same ns q.position r unsaid l ∙ h ∙ sym g
      | inr t ↦
          let g : pinned_by m p s (Some q) ≡ s = ap (λ (b : Bool). cond b x s) t.0 in
          get_or-set_other ns q.position p r unsaid (λ u. t.1 (sym u)) ∙ sym g
    ]
