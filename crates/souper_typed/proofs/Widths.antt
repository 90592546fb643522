-- A written item has the widths that are written.
use Rattle.std.proofs.Common.{◌≡◌, ◌≢◌, ℕ, ◌+◌, List, [], ◌∷◌, ◌++◌, Bool, true, map, length, Option, Some, None, refl, sym, ap, subst, ◌∙◌, arith}
use Rattle.std.specs.Prelude.{flat_map, if◌then◌else◌, slice_get, option_map}
use Rattle.std.specs.List.{AllByRecursion}
use Rattle.souper_graph.specs.declared.ast.operands.Operand.{Operand}
use Rattle.souper_graph.specs.declared.ast.flaws.FlawLocation.{FlawLocation}
use Rattle.souper_graph.specs.declared.ast.flaws.FlawLocation.TheVariants.{Statement, Infer, Result, Cand}
use Rattle.souper_graph.specs.Values.{PlainRootAttribute, PlainStatement, Ending, inferred, resulting, replaced, candidate, Item}
use Rattle.souper_graph.specs.Uses.{NeededIn}
use Rattle.souper_graph.specs.WellFormed.{FitsOperand, FitsStatement, FitsEnding, WellFormed}
use Rattle.souper_graph.specs.Flaws.{line_operands, line_attributes}
use Rattle.souper_widths.specs.declared.flaws.WidthReason.TheVariants.{BlockAsValue, PairAsValue, NotAPair, BadIndex}
use Rattle.souper_widths.specs.declared.rows.Row.TheVariants.{Condition}
use Rattle.souper_widths.specs.Maps.{WidthMap, result_width, operand_width}
use Rattle.souper_widths.specs.Equations.{Width, of_root, Holds, operand_equations}
use Rattle.souper_widths.specs.Table.{each_with, statement_equations}
use Rattle.souper_widths.specs.Places.{IsPlace, SolvesAt}
use Rattle.souper_widths.specs.Shape.{ShapedLine, ShapedOptional, ShapedAt, shape_reasons, HasShape}
use Rattle.souper_widths.specs.Limits.{FitsOperandWidth, KeepsStatement, KeepsLine, KeepsAt, limit_reasons, KeepsLimits}
use Rattle.souper_widths.specs.Typed.{HasWidths, Typed}
use Rattle.souper_typed.specs.declared.form.Form.{Form}
use Rattle.souper_typed.specs.Written.{written_operand, written_statement, has_none, written_with, written_from, written_ending, written_item, IsWritten}
use Rattle.souper_typed.proofs.Equations.{written_pair, each-pair, pairs-hold, pairs-held, each-first, pairs-bits}
use Rattle.souper_typed.proofs.Graphs.{written_at, at-is, length-written, item-again, needed-to, needed-from, item-well_formed}
use Rattle.souper_typed.proofs.Places.{HoldsPairs, typed_at, statement-holds, statement-held, statement-typed, operands-shaped, statement-shaped, statement-keeps, none-true}

-- a needed statement has its widths
optional-typed : (f : Form) (m : WidthMap) (p : ℕ) (ss : List PlainStatement) (o : Option PlainStatement) → AllByRecursion (ShapedOptional ss o) shape_reasons → AllByRecursion (Holds m) (statement_equations p o)
    → option_map (written_at f m p) o ≡ option_map (typed_at f m p) o
optional-typed f m p ss None shape h = refl
optional-typed f m p ss (Some s) shape h = ap Some (statement-typed f m p ss s shape h)

pub stands : (f : Form) (m : WidthMap) (a : Item) (p : ℕ) → Typed a m → NeededIn a p → slice_get (written_from f m 0 a.statements) p ≡ option_map (typed_at f m p) (slice_get a.statements p)
stands f m a p t n = at-is f m a.statements p ∙ optional-typed f m p a.statements (slice_get a.statements p) (t.shape (Statement p) n) (t.has.holds (Statement p) n)

pub needed-typed : (f : Form) (m : WidthMap) (a : Item) (p : ℕ) (s : PlainStatement) → Typed a m → NeededIn a p → slice_get a.statements p ≡ Some s → slice_get (written_from f m 0 a.statements) p ≡ Some (typed_at f m p s)
needed-typed f m a p s t n e = stands f m a p t n ∙ ap (option_map (typed_at f m p)) e

option-same : (h : PlainStatement → PlainStatement) (o : Option PlainStatement) → ((s : PlainStatement) → h s ≡ s) → option_map h o ≡ o
option-same h None e = refl
option-same h (Some s) e = ap Some (e s)

pub unneeded-same : (f : Form) (m : WidthMap) (a : Item) (p : ℕ) → Typed a m → ¬ NeededIn a p → slice_get (written_from f m 0 a.statements) p ≡ slice_get a.statements p
unneeded-same f m a p t n =
    let w = result_width m p in
    let v = operand_width m p in
    let z = t.has.unneeded p n in
    at-is f m a.statements p ∙ option-same (written_at f m p) (slice_get a.statements p) (λ s. ap (λ (b : Bool). if b then s else written_statement f w v s) (none-true w v z.0 z.1))

-- the optional statement of a place
optional-shaped : (f : Form) (m : WidthMap) (p : ℕ) (ss : List PlainStatement) (o : Option PlainStatement) → AllByRecursion (Holds m) (statement_equations p o) → AllByRecursion (ShapedOptional ss o) shape_reasons
    → AllByRecursion (ShapedOptional (written_from f m 0 ss) (option_map (typed_at f m p) o)) shape_reasons
optional-shaped f m p ss None h shape = shape
optional-shaped f m p ss (Some s) h shape = statement-shaped f m ss p s h shape

optional-holds : (f : Form) (m : WidthMap) (p : ℕ) (o : Option PlainStatement) → AllByRecursion (Holds m) (statement_equations p o) → AllByRecursion (Holds m) (statement_equations p (option_map (typed_at f m p) o))
optional-holds f m p None h = tt
optional-holds f m p (Some s) h = statement-holds f m p s h

optional-held : (f : Form) (m n : WidthMap) (p : ℕ) (o : Option PlainStatement) → ((s : PlainStatement) → o ≡ Some s → FitsStatement s) → AllByRecursion (Holds m) (statement_equations p o)
    → AllByRecursion (Holds n) (statement_equations p (option_map (typed_at f m p) o)) → AllByRecursion (Holds n) (statement_equations p o)
optional-held f m n p None fits h k = tt
optional-held f m n p (Some s) fits h k = statement-held f m n p s (fits s refl) h k

optional-keeps : (f : Form) (m : WidthMap) (p : ℕ) (o : Option PlainStatement) → AllByRecursion (KeepsStatement m p o) limit_reasons → AllByRecursion (KeepsStatement m p (option_map (typed_at f m p) o)) limit_reasons
optional-keeps f m p None h = h
optional-keeps f m p (Some s) h = statement-keeps f m p s h

-- the last lines
line-operands : (f : Form) (n : ℕ) (l : FlawLocation) (e : Ending) → line_operands l (written_ending f n e) ≡ map (written_operand f n) (line_operands l e)
line-operands f n Infer (inferred i) = refl
line-operands f n Infer (replaced i x) = refl
line-operands f n Result (resulting x) = refl
line-operands f n Result (replaced i x) = refl
line-operands f n Cand (candidate c) = refl
line-operands f n l e = refl

line-attributes : (f : Form) (n : ℕ) (l : FlawLocation) (e : Ending) → line_attributes l (written_ending f n e) ≡ line_attributes l e
line-attributes f n Infer (inferred i) = refl
line-attributes f n Infer (replaced i x) = refl
line-attributes f n Cand (candidate c) = refl
line-attributes f n l e = refl

pub line-fits : (l : FlawLocation) (e : Ending) → FitsEnding e → AllByRecursion FitsOperand (line_operands l e)
line-fits Infer (inferred i) h = (tt, tt)
line-fits Infer (replaced i x) h = (tt, tt)
line-fits Result (resulting x) h = (h, tt)
line-fits Result (replaced i x) h = (h.1, tt)
line-fits Cand (candidate c) h = (h.0, (h.1, tt))
line-fits l e h = tt

pub line-pairs : (f : Form) (m : WidthMap) (l : FlawLocation) (e : Ending) → each_with of_root (line_operands l (written_ending f m.root e)) ≡ map (written_pair f m) (each_with of_root (line_operands l e))
line-pairs f m l e = ap (each_with of_root) (line-operands f m.root l e) ∙ each-pair f m of_root (line_operands l e)

map-none : (h : Operand → Operand) (xs : List Operand) → map h xs ≡ [] → xs ≡ []
map-none h [] e = refl
map-none h (x ∷ xs) e = absurd (cc)

line-to : (f : Form) (n : ℕ) (l : FlawLocation) (e : Ending) → line_operands l e ≢ [] → line_operands l (written_ending f n e) ≢ []
line-to f n l e h k = h (map-none (written_operand f n) (line_operands l e) (sym (line-operands f n l e) ∙ k))

pub line-from : (f : Form) (n : ℕ) (l : FlawLocation) (e : Ending) → line_operands l (written_ending f n e) ≢ [] → line_operands l e ≢ []
line-from f n l e h k = h (line-operands f n l e ∙ ap (map (written_operand f n)) k)

abbrev LineHolds : WidthMap → FlawLocation → Ending → Type 0
LineHolds m l e = HoldsPairs m (each_with of_root (line_operands l e))

line-holds : (f : Form) (m : WidthMap) (l : FlawLocation) (e : Ending) → LineHolds m l e → LineHolds m l (written_ending f m.root e)
line-holds f m l e h = subst (HoldsPairs m) (sym (line-pairs f m l e)) (pairs-hold f m (each_with of_root (line_operands l e)) h)

line-held : (f : Form) (m n : WidthMap) (l : FlawLocation) (e : Ending) → FitsEnding e → LineHolds m l e → LineHolds n l (written_ending f m.root e) → LineHolds n l e
line-held f m n l e fits h k =
    pairs-held f m n (each_with of_root (line_operands l e)) (each-first of_root (line_operands l e) (line-fits l e fits)) h (subst (HoldsPairs n) (line-pairs f m l e) k)

abbrev LineShaped : List PlainStatement → FlawLocation → Ending → Type 0
LineShaped ss l e = AllByRecursion (ShapedLine ss (line_operands l e)) shape_reasons

line-shaped : (f : Form) (m : WidthMap) (ss : List PlainStatement) (l : FlawLocation) (e : Ending) → LineShaped ss l e → LineShaped (written_from f m 0 ss) l (written_ending f m.root e)
line-shaped f m ss l e h =
    let xs : List Operand = line_operands l e in
    let n : ℕ = m.root in
    subst (λ (z : List Operand). AllByRecursion (ShapedLine (written_from f m 0 ss) z) shape_reasons) (sym (line-operands f n l e)) (
      tt,
      (
        tt,
        (
          operands-shaped f m ss Condition n xs BlockAsValue h.1.1.0,
          (operands-shaped f m ss Condition n xs PairAsValue h.1.1.1.0, (operands-shaped f m ss Condition n xs NotAPair h.1.1.1.1.0, (operands-shaped f m ss Condition n xs BadIndex h.1.1.1.1.1.0, tt))),
        ),
      ),
    )

abbrev LineKeeps : WidthMap → FlawLocation → Ending → Type 0
LineKeeps m l e = AllByRecursion (KeepsLine m (line_operands l e) (line_attributes l e)) limit_reasons

line-keeps : (f : Form) (m : WidthMap) (l : FlawLocation) (e : Ending) → LineKeeps m l e → LineKeeps m l (written_ending f m.root e)
line-keeps f m l e h =
    subst (λ (z : List PlainRootAttribute). AllByRecursion (KeepsLine m (line_operands l (written_ending f m.root e)) z) limit_reasons) (sym (line-attributes f m.root l e)) (
      h.0,
      (
        h.1.0,
        (
          h.1.1.0,
          (
            subst (AllByRecursion (FitsOperandWidth m)) (sym (line-pairs f m l e)) (pairs-bits f m (each_with of_root (line_operands l e)) h.1.1.1.0),
            h.1.1.1.1,
          ),
        ),
      ),
    )

-- the places of a and of the written item
pub fits-at : (a : Item) (p : ℕ) → WellFormed a → NeededIn a p → (s : PlainStatement) → slice_get a.statements p ≡ Some s → FitsStatement s
fits-at a p w n s e = (w.closed p s n e).fits

item-shape : (f : Form) (m : WidthMap) (a : Item) → Typed a m → HasShape (written_item f m a)
item-shape f m a t (Statement p) n =
    let k : NeededIn a p = needed-from f m a p n in
    subst (λ (z : Option PlainStatement). AllByRecursion (ShapedOptional (written_from f m 0 a.statements) z) shape_reasons) (sym (stands f m a p t k))
    (optional-shaped f m p a.statements (slice_get a.statements p) (t.has.holds (Statement p) k) (t.shape (Statement p) k))
item-shape f m a t Infer n = line-shaped f m a.statements Infer a.ending (t.shape Infer (line-from f m.root Infer a.ending n))
item-shape f m a t Result n = line-shaped f m a.statements Result a.ending (t.shape Result (line-from f m.root Result a.ending n))
item-shape f m a t Cand n = line-shaped f m a.statements Cand a.ending (t.shape Cand (line-from f m.root Cand a.ending n))

item-solves : (f : Form) (m : WidthMap) (a : Item) → Typed a m → (l : FlawLocation) → IsPlace (written_item f m a) l → SolvesAt (written_item f m a) m l
item-solves f m a t (Statement p) n =
    let k : NeededIn a p = needed-from f m a p n in
    subst (λ (z : Option PlainStatement). AllByRecursion (Holds m) (statement_equations p z)) (sym (stands f m a p t k)) (optional-holds f m p (slice_get a.statements p) (t.has.holds (Statement p) k))
item-solves f m a t Infer n = line-holds f m Infer a.ending (t.has.holds Infer (line-from f m.root Infer a.ending n))
item-solves f m a t Result n = line-holds f m Result a.ending (t.has.holds Result (line-from f m.root Result a.ending n))
item-solves f m a t Cand n = line-holds f m Cand a.ending (t.has.holds Cand (line-from f m.root Cand a.ending n))

item-solved : (f : Form) (m n : WidthMap) (a : Item) → WellFormed a → Typed a m → HasWidths (written_item f m a) n → (l : FlawLocation) → IsPlace a l → SolvesAt a n l
item-solved f m n a w t h (Statement p) k =
    optional-held f m n p (slice_get a.statements p) (fits-at a p w k) (t.has.holds (Statement p) k)
    (subst (λ (z : Option PlainStatement). AllByRecursion (Holds n) (statement_equations p z)) (stands f m a p t k) (h.holds (Statement p) (needed-to f m a p k)))
item-solved f m n a w t h Infer k = line-held f m n Infer a.ending w.ending_fits (t.has.holds Infer k) (h.holds Infer (line-to f m.root Infer a.ending k))
item-solved f m n a w t h Result k = line-held f m n Result a.ending w.ending_fits (t.has.holds Result k) (h.holds Result (line-to f m.root Result a.ending k))
item-solved f m n a w t h Cand k = line-held f m n Cand a.ending w.ending_fits (t.has.holds Cand k) (h.holds Cand (line-to f m.root Cand a.ending k))

item-keeps : (f : Form) (m : WidthMap) (a : Item) → Typed a m → KeepsLimits (written_item f m a) m
item-keeps f m a t (Statement p) n =
    let k : NeededIn a p = needed-from f m a p n in
    subst (λ (z : Option PlainStatement). AllByRecursion (KeepsStatement m p z) limit_reasons) (sym (stands f m a p t k)) (optional-keeps f m p (slice_get a.statements p) (t.limits (Statement p) k))
item-keeps f m a t Infer n = line-keeps f m Infer a.ending (t.limits Infer (line-from f m.root Infer a.ending n))
item-keeps f m a t Result n = line-keeps f m Result a.ending (t.limits Result (line-from f m.root Result a.ending n))
item-keeps f m a t Cand n = line-keeps f m Cand a.ending (t.limits Cand (line-from f m.root Cand a.ending n))

item-has : (f : Form) (m : WidthMap) (a : Item) → Typed a m → HasWidths (written_item f m a) m
item-has f m a t =
    let e : length (written_from f m 0 a.statements) ≡ length a.statements = length-written f m 0 a.statements in
    record {
      results = t.has.results ∙ sym e;
      operands = t.has.operands ∙ sym e;
      holds = item-solves f m a t;
      unneeded = λ p n. t.has.unneeded p (λ k. n (needed-to f m a p k));
    }

item-had : (f : Form) (m n : WidthMap) (a : Item) → WellFormed a → Typed a m → HasWidths (written_item f m a) n → HasWidths a n
item-had f m n a w t h =
    let e : length (written_from f m 0 a.statements) ≡ length a.statements = length-written f m 0 a.statements in
    record {
      results = h.results ∙ e;
      operands = h.operands ∙ e;
      holds = item-solved f m n a w t h;
      unneeded = λ p k. h.unneeded p (λ q. k (needed-from f m a p q));
    }

pub item-typed : (f : Form) (m : WidthMap) (a : Item) → WellFormed a → Typed a m → Typed (written_item f m a) m
item-typed f m a w t = record {
  shape = item-shape f m a t;
  has = item-has f m a t;
  only = λ n h. t.only n (item-had f m n a w t h);
  limits = item-keeps f m a t;
}

-- all that is said of a written item
pub item-written : (f : Form) (m : WidthMap) (a b : Item) → WellFormed a → Typed a m → b ≡ written_item f m a → IsWritten f m a b
item-written f m a b w t e = subst (IsWritten f m a) (sym e) (record {
  was_well_formed = w;
  was_typed = t;
  written = refl;
  needed = λ p s n h. needed-typed f m a p s t n h;
  unneeded = λ p n. unneeded-same f m a p t n;
  well_formed = item-well_formed f m a w;
  typed = item-typed f m a w t;
  again = item-again f m a;
})
