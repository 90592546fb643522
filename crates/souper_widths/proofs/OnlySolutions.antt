-- The only solution, and the first place that is undetermined.
use Rattle.std.proofs.Common.{◌≡◌, ◌≢◌, ◌⊎◌, ℕ, zero, suc, ◌+◌, ◌*◌, ◌<◌, ◌≤◌, inl, inr, Bool, true, false, cond, List, [], ◌∷◌, length, get_or, refl, sym, ap, ◌∙◌, arith, eq-eqb}
use Rattle.souper_graph.specs.declared.ast.flaws.FlawLocation.{FlawLocation}
use Rattle.souper_graph.specs.declared.ast.flaws.FlawLocation.TheVariants.{Statement, Infer, Result, Cand}
use Rattle.souper_graph.specs.Values.{Ending, inferred, resulting, replaced, candidate, Item}
use Rattle.souper_graph.specs.Uses.{NeededIn}
use Rattle.souper_graph.specs.WellFormed.{WellFormed}
use Rattle.souper_graph.specs.Flaws.{IsBefore, line_operands}
use Rattle.souper_widths.specs.declared.rows.Row.{Row}
use Rattle.souper_widths.specs.declared.rows.Row.TheVariants.{Input, Block, Phi, Same, Bit, Resized, Select, Pair, Number as number_row, Overflow, BadPart, Condition}
use Rattle.souper_widths.specs.Maps.{WidthMap, result_width, operand_width, AgreeAt}
use Rattle.souper_widths.specs.Places.{IsPlace}
use Rattle.souper_widths.specs.Shape.{HasShape}
use Rattle.souper_widths.specs.Typed.{HasWidths}
use Rattle.souper_widths.specs.Flaws.{IsFirstUndetermined, IsOnlySolution}
use Rattle.souper_widths.specs.Forest.{filled, TellsWidths}
use Rattle.souper_widths.specs.Ties.{shown_result, shown_operands}
use Rattle.souper_widths.specs.Nodes.{row_at, ShowsNodes, shown_at, operands_shown_at, map_of, MarkNeeded, ClassesOf}
use Rattle.souper_widths.proofs.Locations.{same_maps}
use Rattle.souper_widths.proofs.NodeWidths.{length-listed, listed-at}
use Rattle.souper_widths.proofs.FirstConflicts.{filled-positive, shows-marked, classes-solved}
use Rattle.souper_widths.specs.Told.{ShowsResult, ShowsOperands, IsTold}
use Rattle.souper_widths.proofs.ToldPlaces.{told-agree}

past-zero : (xs : List ℕ) (i : ℕ) → length xs ≤ i → get_or xs i 0 ≡ 0
past-zero [] i h = refl
past-zero (x ∷ xs) zero h = absurd (omega arith)
past-zero (x ∷ xs) (suc i) h = past-zero xs i (omega arith)

unmarked : (b : Bool) (x : ℕ) → b ≢ true → cond b x 0 ≡ 0
unmarked true x ne = absurd (ne refl)
unmarked false x ne = refl

true-or_not : (b : Bool) → (b ≡ true) ⊎ (b ≢ true)
true-or_not true = inl refl
true-or_not false = inr (λ e. absurd (cc e))

-- the map of all widths, with d for those that are not told
abbrev pub map_by : Item → List Bool → List ℕ → ℕ → WidthMap
map_by a marks ws d = map_of a.statements marks (filled d ws)

no-width : (a : Item) (marks : List Bool) (ws : List ℕ) (d p : ℕ) → MarkNeeded a marks → ¬ NeededIn a p → (result_width (map_by a marks ws d) p ≡ 0) × (operand_width (map_by a marks ws d) p ≡ 0)
no-width a marks ws d p k n = elim (inside-or_past p (length a.statements)) [
  | inl l ↦ (
    listed-at (shown_at a.statements marks (filled d ws)) (length a.statements) p l ∙ unmarked (get_or marks p false) (shown_result (row_at a.statements p) (filled d ws (2 * p))) (λ e. n ((k.exact p).0 e)),
    listed-at (operands_shown_at a.statements marks (filled d ws)) (length a.statements) p l ∙ unmarked (get_or marks p false) (shown_operands (row_at a.statements p) (filled d ws (2 * p + 1))) (λ e. n ((k.exact p).0 e)),
  )
  | inr l ↦ (
    past-zero (map_by a marks ws d).results p (omega (arith, l, length-listed (shown_at a.statements marks (filled d ws)) (length a.statements))),
    past-zero (map_by a marks ws d).operands p (omega (arith, l, length-listed (operands_shown_at a.statements marks (filled d ws)) (length a.statements))),
  )
]
  where
    inside-or_past : (i n : ℕ) → (i < n) ⊎ (n ≤ i)
    inside-or_past i zero = inr (omega arith)
    inside-or_past zero (suc n) = inl (omega arith)
    inside-or_past (suc i) (suc n) = elim (inside-or_past i n) [ inl h ↦ inl (omega arith) | inr h ↦ inr (omega arith) ]

pub has-widths : (a : Item) (marks : List Bool) (ps ns ws : List ℕ) (d : ℕ) → WellFormed a → HasShape a → MarkNeeded a marks → ClassesOf a (λ k. Unit {0}) ps ns → TellsWidths ps ns ws → 0 < d → HasWidths a (map_by a marks ws d)
has-widths a marks ps ns ws d w h k c t positive = record {
  results = length-listed (shown_at a.statements marks (filled d ws)) (length a.statements);
  operands = length-listed (operands_shown_at a.statements marks (filled d ws)) (length a.statements);
  holds = λ l p. classes-solved a marks (λ z. Unit {0}) ps ns (filled d ws) w h (λ q n. (k.exact q).1 n) c (λ x. filled-positive d ws x positive) (t.free d positive) l tt p;
  unneeded = λ p n. no-width a marks ws d p k n;
}

filled-by : (d : ℕ) (ws : List ℕ) (i : ℕ) → get_or ws i 0 ≡ 0 → filled d ws i ≡ d
filled-by d ws i e = ap (λ (b : Bool). cond b d (get_or ws i 0)) (eq-eqb (get_or ws i 0) 0 e)

result-apart : (r : Row) → ShowsResult r → shown_result r 1 ≢ shown_result r 2
result-apart Input s = λ e. absurd (omega (arith, e))
result-apart Block s = absurd s
result-apart Phi s = λ e. absurd (omega (arith, e))
result-apart Same s = λ e. absurd (omega (arith, e))
result-apart Bit s = λ e. absurd (omega (arith, e))
result-apart Resized s = λ e. absurd (omega (arith, e))
result-apart Select s = λ e. absurd (omega (arith, e))
result-apart Pair s = λ e. absurd (omega (arith, e))
result-apart number_row s = λ e. absurd (omega (arith, e))
result-apart Overflow s = λ e. absurd (omega (arith, e))
result-apart BadPart s = absurd s
result-apart Condition s = absurd s

operands-apart : (r : Row) → ShowsOperands r → shown_operands r 1 ≢ shown_operands r 2
operands-apart Input s = absurd s
operands-apart Block s = absurd s
operands-apart Phi s = λ e. absurd (omega (arith, e))
operands-apart Same s = λ e. absurd (omega (arith, e))
operands-apart Bit s = λ e. absurd (omega (arith, e))
operands-apart Resized s = λ e. absurd (omega (arith, e))
operands-apart Select s = λ e. absurd (omega (arith, e))
operands-apart Pair s = λ e. absurd (omega (arith, e))
operands-apart number_row s = λ e. absurd (omega (arith, e))
operands-apart Overflow s = λ e. absurd (omega (arith, e))
operands-apart BadPart s = absurd s
operands-apart Condition s = λ e. absurd (omega (arith, e))

root-told : (a : Item) (ws : List ℕ) → filled 1 ws (2 * length a.statements) ≡ filled 2 ws (2 * length a.statements) → get_or ws (2 * length a.statements) 0 ≢ 0
root-told a ws e z = omega (arith, sym (filled-by 1 ws (2 * length a.statements) z) ∙ e ∙ filled-by 2 ws (2 * length a.statements) z)

-- two maps that agree at a place show that its widths are told
agree-told : (a : Item) (marks : List Bool) (ws : List ℕ) (l : FlawLocation) → WellFormed a → MarkNeeded a marks → IsPlace a l → AgreeAt (map_by a marks ws 1) (map_by a marks ws 2) l → IsTold a ws l
agree-told a marks ws (Statement p) w k n g = (
  (λ s z. result-apart (row_at a.statements p) s
      (ap (λ (y : ℕ). shown_result (row_at a.statements p) y) (sym (filled-by 1 ws (2 * p) z)) ∙ sym (one.results p n) ∙ g.0 ∙ two.results p n ∙ ap (λ (y : ℕ). shown_result (row_at a.statements p) y) (filled-by 2 ws (2 * p) z))),
  (λ s z. operands-apart (row_at a.statements p) s
      (ap (λ (y : ℕ). shown_operands (row_at a.statements p) y) (sym (filled-by 1 ws (2 * p + 1) z)) ∙ sym (one.operands p n) ∙ g.1 ∙ two.operands p n ∙ ap (λ (y : ℕ). shown_operands (row_at a.statements p) y) (filled-by 2 ws (2 * p + 1) z))),
)
  where
    one : ShowsNodes a (map_by a marks ws 1) (filled 1 ws)
    one = shows-marked a marks (filled 1 ws) w (λ q h. (k.exact q).1 h)

    two : ShowsNodes a (map_by a marks ws 2) (filled 2 ws)
    two = shows-marked a marks (filled 2 ws) w (λ q h. (k.exact q).1 h)
agree-told a marks ws Infer w k n g = root-told a ws g
agree-told a marks ws Result w k n g = root-told a ws g
agree-told a marks ws Cand w k n g = root-told a ws g

pub first-undetermined : (a : Item) (marks : List Bool) (ps ns ws : List ℕ) (l : FlawLocation) → WellFormed a → HasShape a → MarkNeeded a marks → ClassesOf a (λ k. Unit {0}) ps ns → TellsWidths ps ns ws → IsPlace a l
    → ¬ IsTold a ws l → ((k : FlawLocation) → IsPlace a k → IsBefore k l → IsTold a ws k) → IsFirstUndetermined a l
first-undetermined a marks ps ns ws l w h k c t place untold before = record {
  place = place;
  differ = (map_by a marks ws 1, map_by a marks ws 2, has-widths a marks ps ns ws 1 w h k c t (omega arith), has-widths a marks ps ns ws 2 w h k c t (omega arith), (λ g. untold (agree-told a marks ws l w k place g)));
  agree = λ m n hm hn z p b. told-agree a ps ns ws m n z w h c t hm.holds hn.holds p (before z p b);
}

-- each item has a last line
last-place : (a : Item) (e : Ending) → a.ending ≡ e → (l : FlawLocation) × IsPlace a l × ((m n : WidthMap) → AgreeAt m n l → m.root ≡ n.root)
last-place a (inferred i) e = (Infer, (λ z. absurd (cc (sym (ap (line_operands Infer) e) ∙ z))), (λ m n g. g))
last-place a (resulting x) e = (Result, (λ z. absurd (cc (sym (ap (line_operands Result) e) ∙ z))), (λ m n g. g))
last-place a (replaced i x) e = (Infer, (λ z. absurd (cc (sym (ap (line_operands Infer) e) ∙ z))), (λ m n g. g))
last-place a (candidate x) e = (Cand, (λ z. absurd (cc (sym (ap (line_operands Cand) e) ∙ z))), (λ m n g. g))

pub only-solution : (a : Item) (marks : List Bool) (ps ns ws : List ℕ) → WellFormed a → HasShape a → MarkNeeded a marks → ClassesOf a (λ k. Unit {0}) ps ns → TellsWidths ps ns ws
    → ((k : FlawLocation) → IsPlace a k → IsTold a ws k) → IsOnlySolution a (map_by a marks ws 1)
only-solution a marks ps ns ws w h k c t told = record { shape = h; has = has; only = only }
  where
    has : HasWidths a (map_by a marks ws 1)
    has = has-widths a marks ps ns ws 1 w h k c t (omega arith)

    agree : (n : WidthMap) → HasWidths a n → (l : FlawLocation) → IsPlace a l → AgreeAt n (map_by a marks ws 1) l
    agree n hn l p = told-agree a ps ns ws n (map_by a marks ws 1) l w h c t hn.holds has.holds p (told l p)

    only : (n : WidthMap) → HasWidths a n → n ≡ map_by a marks ws 1
    only n hn =
        let last = last-place a a.ending refl in
        same_maps n (map_by a marks ws 1) (length a.statements) hn.results has.results hn.operands has.operands
        (λ p l. elim (true-or_not (get_or marks p false)) [
          | inl e ↦ agree n hn (Statement p) ((k.exact p).0 e)
          | inr ne ↦
              let other : ¬ NeededIn a p = (λ q. ne ((k.exact p).1 q)) in
              ((hn.unneeded p other).0 ∙ sym (has.unneeded p other).0, (hn.unneeded p other).1 ∙ sym (has.unneeded p other).1)
        ])
        (last.2 n (map_by a marks ws 1) (agree n hn last.0 last.1))
