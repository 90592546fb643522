-- The last lines after the pass, and the widths of the item.
use Rattle.std.proofs.Common.{◌≡◌, ◌≢◌, ◌⊎◌, ℕ, zero, suc, ◌<◌, ◌≤◌, inl, inr, List, [], ◌∷◌, length, get_or, None, refl, arith}
use Rattle.std.specs.Prelude.{flat_map}
use Rattle.std.specs.List.{AllByRecursion}
use Rattle.souper_graph.specs.declared.ast.operands.Operand.{Operand}
use Rattle.souper_graph.specs.declared.ast.operands.Operand.TheVariants.{Value}
use Rattle.souper_graph.specs.declared.ast.flaws.FlawLocation.TheVariants.{Infer, Result, Cand}
use Rattle.souper_graph.specs.Values.{Ending, inferred, resulting, replaced, candidate, Item}
use Rattle.souper_graph.specs.WellFormed.{WellFormed}
use Rattle.souper_graph.specs.Flaws.{line_operands}
use Rattle.souper_graph.specs.PartsView.{root_operands}
use Rattle.souper_graph.proofs.Judging.Needed.{well_formed_inside}
use Rattle.souper_graph.proofs.Judging.Closed.{All-both, All-first}
use Rattle.souper_widths.specs.declared.rows.Row.TheVariants.{Condition}
use Rattle.souper_widths.specs.Maps.{WidthMap}
use Rattle.souper_widths.specs.Equations.{of_root, Holds, operand_equations}
use Rattle.souper_widths.specs.Table.{each_with}
use Rattle.souper_widths.specs.Places.{IsPlace, SolvesAt}
use Rattle.souper_widths.specs.Shape.{ShapedLine, shape_reasons, HasShape}
use Rattle.souper_widths.specs.Limits.{KeepsLimits}
use Rattle.souper_widths.specs.Typed.{HasWidths, Typed}
use Rattle.souper_widths.specs.Forward.{HasOwnWidth, AnyForcing, ForceWidth, ForcedLines}
use Rattle.souper_widths.proofs.Locations.{each_location, same_maps}
use Rattle.souper_widths.proofs.Lines.{lines-shape, lines-limit}
use Rattle.souper_widths.proofs.ForwardOperands.{own-results, operands-solve, operands-tell}
use Rattle.souper_widths.proofs.ForwardSteps.{IsPlainBefore, AgreesWith, ForwardTo, no-blocks, no-pairs, single-shape, agrees-before}

-- what holds of the operands of all last lines holds of each line
infer-all : (P : Operand → Type 0) (e : Ending) → AllByRecursion P (root_operands e) → AllByRecursion P (line_operands Infer e)
infer-all P (inferred i) h = h
infer-all P (resulting x) h = tt
infer-all P (replaced i x) h = (h.0, tt)
infer-all P (candidate c) h = tt

result-all : (P : Operand → Type 0) (e : Ending) → AllByRecursion P (root_operands e) → AllByRecursion P (line_operands Result e)
result-all P (inferred i) h = tt
result-all P (resulting x) h = h
result-all P (replaced i x) h = h.1
result-all P (candidate c) h = tt

cand-all : (P : Operand → Type 0) (e : Ending) → AllByRecursion P (root_operands e) → AllByRecursion P (line_operands Cand e)
cand-all P (inferred i) h = tt
cand-all P (resulting x) h = tt
cand-all P (replaced i x) h = tt
cand-all P (candidate c) h = h

-- the equations of operands of last lines
abbrev RootsHold : WidthMap → List Operand → Type 0
RootsHold m xs = AllByRecursion (Holds m) (flat_map operand_equations (each_with of_root xs))

-- a map that solves each line solves the equations of all operands
roots-hold : (m : WidthMap) (e : Ending) → (line_operands Infer e ≢ [] → RootsHold m (line_operands Infer e)) → (line_operands Result e ≢ [] → RootsHold m (line_operands Result e))
    → (line_operands Cand e ≢ [] → RootsHold m (line_operands Cand e)) → RootsHold m (root_operands e)
roots-hold m (inferred i) f r c = f (λ z. absurd (cc z))
roots-hold m (resulting x) f r c = r (λ z. absurd (cc z))
roots-hold m (replaced i x) f r c = All-both (Holds m) (operand_equations (Value i.value, of_root)) (flat_map operand_equations (each_with of_root (x ∷ [])))
    (All-first (Holds m) (operand_equations (Value i.value, of_root)) [] (f (λ z. absurd (cc z)))) (r (λ z. absurd (cc z)))
roots-hold m (candidate k) f r c = c (λ z. absurd (cc z))

roots-own : (rs : List ℕ) (e : Ending) (n : ℕ) → n ≢ 0 → ForceWidth rs n (root_operands e) → AllByRecursion (HasOwnWidth rs n) (root_operands e)
roots-own rs e n above (inl h) = h.1
roots-own rs e n above (inr h) = absurd (above h.0)

roots-any : (rs : List ℕ) (e : Ending) (n : ℕ) → n ≢ 0 → ForceWidth rs n (root_operands e) → AnyForcing (root_operands e)
roots-any rs e n above (inl h) = h.2
roots-any rs e n above (inr h) = absurd (above h.0)

line-shaped : (a : Item) (rs os : List ℕ) (n : ℕ) (xs : List Operand) → n ≢ 0 → ForwardTo a rs os (length a.statements) → AllByRecursion (HasOwnWidth rs n) xs → AllByRecursion (ShapedLine a.statements xs) shape_reasons
line-shaped a rs os n xs above h own =
    let plain : IsPlainBefore a.statements rs (length rs) = (λ i l. h.plain i (omega (arith, l, h.results))) in
    let values = own-results rs n xs above own in
    (tt, (tt, single-shape a.statements Condition xs tt (no-blocks a.statements rs xs plain values) (no-pairs a.statements rs xs plain values)))

past-zero : (xs : List ℕ) (i : ℕ) → length xs ≤ i → get_or xs i 0 ≡ 0
past-zero [] i h = refl
past-zero (x ∷ xs) zero h = absurd (omega arith)
past-zero (x ∷ xs) (suc i) h = past-zero xs i (omega arith)

inside-or_past : (i n : ℕ) → (i < n) ⊎ (n ≤ i)
inside-or_past i zero = inr (omega arith)
inside-or_past zero (suc n) = inl (omega arith)
inside-or_past (suc i) (suc n) = elim (inside-or_past i n) [ inl h ↦ inl (omega arith) | inr h ↦ inr (omega arith) ]

abbrev pub map_with : List ℕ → List ℕ → ℕ → WidthMap
map_with rs os n = record { results = rs; operands = os; root = n }

forward-shape : (a : Item) (rs os : List ℕ) (n : ℕ) → WellFormed a → ForwardTo a rs os (length a.statements) → ForcedLines rs a.ending n → HasShape a
forward-shape a rs os n w h k =
    let own : AllByRecursion (HasOwnWidth rs n) (root_operands a.ending) = roots-own rs a.ending n k.above k.own in
    lines-shape a None (λ p needed. h.shaped p (well_formed_inside a w p needed) needed) (
      line-shaped a rs os n (line_operands Infer a.ending) k.above h (infer-all (HasOwnWidth rs n) a.ending own),
      line-shaped a rs os n (line_operands Result a.ending) k.above h (result-all (HasOwnWidth rs n) a.ending own),
      line-shaped a rs os n (line_operands Cand a.ending) k.above h (cand-all (HasOwnWidth rs n) a.ending own),
    )

-- the lists agree with their map
own-map : (rs os : List ℕ) (n p : ℕ) → AgreesWith (map_with rs os n) rs os p
own-map rs os n p = λ i l. (refl, refl)

forward-has : (a : Item) (rs os : List ℕ) (n : ℕ) → WellFormed a → ForwardTo a rs os (length a.statements) → ForcedLines rs a.ending n → HasWidths a (map_with rs os n)
forward-has a rs os n w h k = record {
  results = h.results;
  operands = h.operands;
  holds = each_location (λ l. IsPlace a l → SolvesAt a m l) (λ p needed. h.solves m (own-map rs os n (length a.statements)) p (well_formed_inside a w p needed) needed)
      (λ z. line (line_operands Infer a.ending) (infer-all (HasOwnWidth rs n) a.ending own))
      (λ z. line (line_operands Result a.ending) (result-all (HasOwnWidth rs n) a.ending own))
      (λ z. line (line_operands Cand a.ending) (cand-all (HasOwnWidth rs n) a.ending own));
  unneeded = λ p other. elim (inside-or_past p (length a.statements)) [
    | inl l ↦ h.unneeded p l other
    | inr l ↦ (past-zero rs p (omega (arith, l, h.results)), past-zero os p (omega (arith, l, h.operands)))
  ];
}
  where
    m : WidthMap
    m = map_with rs os n

    own : AllByRecursion (HasOwnWidth rs n) (root_operands a.ending)
    own = roots-own rs a.ending n k.above k.own

    line : (xs : List Operand) → AllByRecursion (HasOwnWidth rs n) xs → RootsHold m xs
    line xs o = operands-solve m rs of_root n xs (agrees-before m rs os (length a.statements) h.results (own-map rs os n (length a.statements))) refl k.above o

forward-only : (a : Item) (rs os : List ℕ) (n : ℕ) → WellFormed a → ForwardTo a rs os (length a.statements) → ForcedLines rs a.ending n → (m : WidthMap) → HasWidths a m → m ≡ map_with rs os n
forward-only a rs os n w h k m hm =
    let agrees : AgreesWith m rs os (length a.statements) = h.only m hm in
    same_maps m (map_with rs os n) (length a.statements) hm.results h.results hm.operands h.operands agrees
    (operands-tell m rs of_root n (root_operands a.ending) (agrees-before m rs os (length a.statements) h.results agrees)
    (roots-own rs a.ending n k.above k.own) (roots-any rs a.ending n k.above k.own)
    (roots-hold m a.ending (λ z. hm.holds Infer z) (λ z. hm.holds Result z) (λ z. hm.holds Cand z)))

forward-limits : (a : Item) (rs os : List ℕ) (n : ℕ) → WellFormed a → ForwardTo a rs os (length a.statements) → ForcedLines rs a.ending n → KeepsLimits a (map_with rs os n)
forward-limits a rs os n w h k = lines-limit a (map_with rs os n) None
    (λ p needed. h.kept (map_with rs os n) (own-map rs os n (length a.statements)) p (well_formed_inside a w p needed) needed) k.limits

-- after the pass over all statements, the widths of the item
pub forward-typed : (a : Item) (rs os : List ℕ) (n : ℕ) → WellFormed a → ForwardTo a rs os (length a.statements) → ForcedLines rs a.ending n → Typed a (map_with rs os n)
forward-typed a rs os n w h k = record {
  shape = forward-shape a rs os n w h k;
  has = forward-has a rs os n w h k;
  only = forward-only a rs os n w h k;
  limits = forward-limits a rs os n w h k;
}
