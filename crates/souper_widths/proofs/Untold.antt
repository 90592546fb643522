-- The first place that is not told, and the map of widths that are.
use Rattle.std.proofs.Common.{◌≡◌, ◌≢◌, ℕ, ◌+◌, ◌*◌, ◌<◌, inl, inr, Bool, true, false, cond, List, [], length, map, get_or, Option, refl, sym, ap, subst, ◌∙◌, arith}
use Rattle.std.specs.Prelude.{slice_get, option_map}
use Rattle.std.proofs.lemmas.Bool.Decides.{eqb_tells}
use Rattle.souper_graph.specs.declared.ast.flaws.FlawLocation.{FlawLocation}
use Rattle.souper_graph.specs.declared.ast.flaws.FlawLocation.TheVariants.{Statement, Infer, Result, Cand}
use Rattle.souper_graph.specs.declared.ast.statements.Statement.{Statement as StatementNode}
use Rattle.souper_graph.specs.Values.{Ending, inferred, resulting, replaced, candidate, Item}
use Rattle.souper_graph.specs.View.{view_statement}
use Rattle.souper_graph.specs.Uses.{NeededIn}
use Rattle.souper_graph.specs.WellFormed.{WellFormed}
use Rattle.souper_graph.specs.Flaws.{IsBefore, line_operands}
use Rattle.souper_widths.specs.declared.rows.Row.{Row}
use Rattle.souper_widths.specs.declared.rows.Row.TheVariants.{Input, Block, BadPart, Condition}
use Rattle.souper_widths.specs.Maps.{WidthMap}
use Rattle.souper_widths.specs.Places.{IsPlace}
use Rattle.souper_widths.specs.Shape.{HasShape}
use Rattle.souper_widths.specs.Flaws.{IsFirstUndetermined, IsOnlySolution}
use Rattle.souper_widths.specs.Lines.{IsFirstLine}
use Rattle.souper_widths.specs.Forest.{filled}
use Rattle.souper_widths.specs.Ties.{shown_result, shown_operands}
use Rattle.souper_widths.specs.Nodes.{row_at, optional_row, shown_at, operands_shown_at, MarkNeeded}
use Rattle.souper_widths.specs.Told.{ShowsResult, ShowsOperands, IsToldRow, IsTold, AllTold, IsFirstUntold, TellsItem, map_told}
use Rattle.souper_widths.proofs.Forests.{one_or_other}
use Rattle.souper_widths.proofs.Locations.{each_location}
use Rattle.souper_widths.proofs.Marks.{viewed-at}
use Rattle.souper_widths.proofs.OnlySolutions.{first-undetermined, only-solution}

-- the row of what stands at a position of the view
pub row-viewed : (xs : List StatementNode) (i : ℕ) (o : Option StatementNode) → slice_get xs i ≡ o → row_at (map view_statement xs) i ≡ optional_row (option_map view_statement o)
row-viewed xs i o e = ap optional_row (viewed-at xs i o e)

-- a row without widths is told
pub bad-told : (r : Row) (x y : ℕ) → r ≡ BadPart → IsToldRow r x y
bad-told r x y e = subst (λ (z : Row). IsToldRow z x y) (sym e) ((λ h. absurd h), (λ h. absurd h))

-- each needed statement is told
abbrev pub EachTold : Item → List ℕ → Type 0
EachTold a ws = (p : ℕ) → NeededIn a p → IsTold a ws (Statement p)

abbrev pub ToldBefore : Item → List ℕ → ℕ → Type 0
ToldBefore a ws n = (p : ℕ) → NeededIn a p → p < n → IsTold a ws (Statement p)

pub told-more : (a : Item) (ws : List ℕ) (n : ℕ) → (NeededIn a n → IsTold a ws (Statement n)) → ToldBefore a ws n → ToldBefore a ws (n + 1)
told-more a ws n here before p needed l = elim (one_or_other p n) [
  | inl e ↦ subst (λ (z : ℕ). IsTold a ws (Statement z)) (sym e) (here (subst (NeededIn a) e needed))
  | inr ne ↦ before p needed (omega (arith, ne, l))
]

needed-untold : (b : Bool) (P : Type 0) → ((b ≡ true → P) → ⊥) → (b ≡ true) × (P → ⊥)
needed-untold true P h = (refl, λ p. h (λ e. p))
needed-untold false P h = absurd (h (λ e. absurd (cc e)))

pub statement-untold : (a : Item) (marks : List Bool) (ws : List ℕ) (n : ℕ) → MarkNeeded a marks → ((get_or marks n false ≡ true → IsTold a ws (Statement n)) → ⊥) → ToldBefore a ws n → IsFirstUntold a ws (Statement n)
statement-untold a marks ws n k h before =
    let t = needed-untold (get_or marks n false) (IsTold a ws (Statement n)) h in
    record {
      place = (k.exact n).0 t.0;
      untold = t.1;
      before = each_location (λ l. IsPlace a l → IsBefore l (Statement n) → IsTold a ws l) before (λ m b. absurd b) (λ m b. absurd b) (λ m b. absurd b);
    }

line-there : (e : Ending) (l : FlawLocation) → IsFirstLine e l → line_operands l e ≢ []
line-there (inferred i) Infer h = λ z. absurd (cc z)
line-there (resulting x) Result h = λ z. absurd (cc z)
line-there (replaced i x) Infer h = λ z. absurd (cc z)
line-there (candidate c) Cand h = λ z. absurd (cc z)
line-there e l h = absurd h

no-earlier : (e : Ending) → IsFirstLine e Result → line_operands Infer e ≡ []
no-earlier (inferred i) h = absurd h
no-earlier (resulting x) h = refl
no-earlier (replaced i x) h = absurd h
no-earlier (candidate c) h = absurd h

no-statement : (e : Ending) (p : ℕ) → IsFirstLine e (Statement p) → ⊥
no-statement (inferred i) p h = h
no-statement (resulting x) p h = h
no-statement (replaced i x) p h = h
no-statement (candidate c) p h = h

pub line-untold : (a : Item) (ws : List ℕ) (l : FlawLocation) → IsFirstLine a.ending l → get_or ws (2 * length a.statements) 0 ≡ 0 → EachTold a ws → IsFirstUntold a ws l
line-untold a ws (Statement p) f z each = absurd (no-statement a.ending p f)
line-untold a ws Infer f z each = record {
  place = line-there a.ending Infer f;
  untold = λ t. t z;
  before = each_location (λ k. IsPlace a k → IsBefore k Infer → IsTold a ws k) (λ p n b. each p n) (λ n b. absurd b) (λ n b. absurd b) (λ n b. absurd b);
}
line-untold a ws Result f z each = record {
  place = line-there a.ending Result f;
  untold = λ t. t z;
  before = each_location (λ k. IsPlace a k → IsBefore k Result → IsTold a ws k) (λ p n b. each p n) (λ n b. absurd (n (no-earlier a.ending f))) (λ n b. absurd b) (λ n b. absurd b);
}
line-untold a ws Cand f z each = record {
  place = line-there a.ending Cand f;
  untold = λ t. t z;
  before = each_location (λ k. IsPlace a k → IsBefore k Cand → IsTold a ws k) (λ p n b. each p n) (λ n b. absurd b) (λ n b. absurd b) (λ n b. absurd b);
}

pub all-told : (a : Item) (ws : List ℕ) → get_or ws (2 * length a.statements) 0 ≢ 0 → EachTold a ws → AllTold a ws
all-told a ws root each = each_location (λ l. IsPlace a l → IsTold a ws l) each (λ n. root) (λ n. root) (λ n. root)

-- the map by widths that are told

pub filled-told : (ws : List ℕ) (i : ℕ) → get_or ws i 0 ≢ 0 → filled 1 ws i ≡ get_or ws i 0
filled-told ws i ne = elim (eqb_tells (get_or ws i 0) 0) [
  | inl e ↦ absurd (ne e.1)
  | inr e ↦ ap (λ (b : Bool). cond b 1 (get_or ws i 0)) e.0
]

result-told : (r : Row) (x y : ℕ) → (ShowsResult r → y ≡ x) → shown_result r x ≡ shown_result r y
result-told Block x y h = refl
result-told BadPart x y h = refl
result-told Condition x y h = refl
result-told r x y h = ap (λ (z : ℕ). shown_result r z) (sym (h tt))

operands-told : (r : Row) (x y : ℕ) → (ShowsOperands r → y ≡ x) → shown_operands r x ≡ shown_operands r y
operands-told Input x y h = refl
operands-told Block x y h = refl
operands-told BadPart x y h = refl
operands-told r x y h = ap (λ (z : ℕ). shown_operands r z) (sym (h tt))

pub if-needed : (b : Bool) (x y : ℕ) → b ≡ true → x ≡ y → x ≡ cond b y 0
if-needed true x y e h = h
if-needed false x y e h = absurd (cc e)

marked-same : (b : Bool) (x y : ℕ) → (b ≡ true → x ≡ y) → cond b x 0 ≡ cond b y 0
marked-same true x y h = h refl
marked-same false x y h = refl

pub shows-result : (a : Item) (marks : List Bool) (ws : List ℕ) (p : ℕ) → MarkNeeded a marks → AllTold a ws
    → cond (get_or marks p false) (shown_result (row_at a.statements p) (get_or ws (2 * p) 0)) 0 ≡ shown_at a.statements marks (filled 1 ws) p
shows-result a marks ws p k told = marked-same (get_or marks p false) (shown_result (row_at a.statements p) (get_or ws (2 * p) 0)) (shown_result (row_at a.statements p) (filled 1 ws (2 * p)))
    (λ e. result-told (row_at a.statements p) (get_or ws (2 * p) 0) (filled 1 ws (2 * p)) (λ s. filled-told ws (2 * p) ((told (Statement p) ((k.exact p).0 e)).0 s)))

pub shows-operands : (a : Item) (marks : List Bool) (ws : List ℕ) (p : ℕ) → MarkNeeded a marks → AllTold a ws
    → cond (get_or marks p false) (shown_operands (row_at a.statements p) (get_or ws (2 * p + 1) 0)) 0 ≡ operands_shown_at a.statements marks (filled 1 ws) p
shows-operands a marks ws p k told = marked-same (get_or marks p false) (shown_operands (row_at a.statements p) (get_or ws (2 * p + 1) 0)) (shown_operands (row_at a.statements p) (filled 1 ws (2 * p + 1)))
    (λ e. operands-told (row_at a.statements p) (get_or ws (2 * p + 1) 0) (filled 1 ws (2 * p + 1)) (λ s. filled-told ws (2 * p + 1) ((told (Statement p) ((k.exact p).0 e)).1 s)))

-- the last lines are a place, and their width is told
root-there : (e : Ending) → (l : FlawLocation) × IsFirstLine e l
root-there (inferred i) = (Infer, tt)
root-there (resulting x) = (Result, tt)
root-there (replaced i x) = (Infer, tt)
root-there (candidate c) = (Cand, tt)

root-of : (a : Item) (ws : List ℕ) (l : FlawLocation) → IsFirstLine a.ending l → IsTold a ws l → get_or ws (2 * length a.statements) 0 ≢ 0
root-of a ws (Statement p) f t = absurd (no-statement a.ending p f)
root-of a ws Infer f t = t
root-of a ws Result f t = t
root-of a ws Cand f t = t

pub shows-root : (a : Item) (ws : List ℕ) → AllTold a ws → get_or ws (2 * length a.statements) 0 ≡ filled 1 ws (2 * length a.statements)
shows-root a ws told =
    let last = root-there a.ending in
    sym (filled-told ws (2 * length a.statements) (root-of a ws last.0 last.1 (told last.0 (first-place last.0 last.1))))
  where
    first-place : (l : FlawLocation) → IsFirstLine a.ending l → IsPlace a l
    first-place (Statement p) f = absurd (no-statement a.ending p f)
    first-place Infer f = line-there a.ending Infer f
    first-place Result f = line-there a.ending Result f
    first-place Cand f = line-there a.ending Cand f

-- the first place that is not told is the first that is undetermined; widths that are all told are the only solution

pub undetermined-of : (a : Item) (marks : List Bool) (ws vs : List ℕ) (l : FlawLocation) → WellFormed a → HasShape a → MarkNeeded a marks → TellsItem a ws → vs ≡ ws → IsFirstUntold a vs l → IsFirstUndetermined a l
undetermined-of a marks ws vs l w h k t e u =
    let v = subst (λ (z : List ℕ). IsFirstUntold a z l) e u in
    first-undetermined a marks t.parents t.numbers ws l w h k t.classes t.tells v.place v.untold v.before

pub solution-of : (a : Item) (marks : List Bool) (ws vs : List ℕ) (m : WidthMap) → WellFormed a → HasShape a → MarkNeeded a marks → TellsItem a ws → vs ≡ ws → AllTold a vs → m ≡ map_told a.statements marks vs → IsOnlySolution a m
solution-of a marks ws vs m w h k t e told q =
    subst (IsOnlySolution a) (sym (q ∙ ap (λ (z : List ℕ). map_told a.statements marks z) e))
    (only-solution a marks t.parents t.numbers ws w h k t.classes t.tells (subst (AllTold a) e told))
