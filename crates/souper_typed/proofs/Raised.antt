-- The widths of a typed item have types, but for pairs of 65536 bits: else greater widths would solve the equations too.
use Rattle.std.proofs.Common.{◌≡◌, ◌≢◌, ℕ, zero, suc, ◌+◌, ◌<◌, ◌≤◌, ◌⊎◌, inl, inr, List, [], ◌∷◌, ◌++◌, Bool, true, false, map, length, Option, Some, None, refl, sym, ap, subst, ◌∙◌, arith}
use Rattle.std.specs.Prelude.{flat_map, if◌then◌else◌, nat_le, slice_get, slice_index}
use Rattle.std.specs.List.{AllByRecursion}
use Rattle.std.proofs.lemmas.Bool.Decides.{leb_tells}
use Rattle.souper_graph.specs.declared.ast.operands.«Type».{«Type» as Ty}
use Rattle.souper_graph.specs.declared.ast.operands.Operand.{Operand}
use Rattle.souper_graph.specs.declared.ast.operands.Operand.TheVariants.{Value, Constant}
use Rattle.souper_graph.specs.declared.ast.flaws.FlawLocation.{FlawLocation}
use Rattle.souper_graph.specs.declared.ast.flaws.FlawLocation.TheVariants.{Statement, Infer, Result, Cand}
use Rattle.souper_graph.specs.Values.{PlainStatement, assigned, condition, block_condition, Ending, Item}
use Rattle.souper_graph.specs.Uses.{NeededIn}
use Rattle.souper_graph.specs.WellFormed.{FitsOptionalType, FitsOperand, FitsStatement, WellFormed}
use Rattle.souper_graph.specs.Flaws.{line_operands}
use Rattle.souper_graph.proofs.Judging.Closed.{All-both, All-first, All-second}
use Rattle.souper_widths.specs.declared.rows.Row.{Row}
use Rattle.souper_widths.specs.declared.rows.Row.TheVariants.{Input, Block, Phi, Same, Bit, Resized, Select, Pair, Number, Overflow, BadPart, Condition}
use Rattle.souper_widths.specs.Maps.{WidthMap, result_width, operand_width}
use Rattle.souper_widths.specs.Equations.{Width, result_of, operands_at, of_root, bits, width_by, Holds, type_equations, constant_equations, operand_equations}
use Rattle.souper_widths.specs.Table.{row_of, operands_in, written_type, each_with, row_operands, statement_operands, statement_equations}
use Rattle.souper_widths.specs.Places.{IsPlace, SolvesAt}
use Rattle.souper_widths.specs.Shape.{IsPairRow, IsPair, IsPairOperand, single_operands, TakesPair, HasPart, ShapedStatement, ShapedOptional, shape_reasons}
use Rattle.souper_widths.specs.Typed.{HasWidths, Typed}
use Rattle.souper_widths.specs.Ties.{result_more, operands_more}
use Rattle.souper_widths.specs.Nodes.{row_at, optional_row}
use Rattle.souper_typed.proofs.Places.{HoldsType, HoldsRow, HoldsPairs, HoldsStatement, type-part, row-part, pairs-part, of-parts, operands-fit}
use Rattle.souper_typed.proofs.Widths.{fits-at, line-fits}

-- one more for each width that has no type; k is 1 for a pair
abbrev pub raised : ℕ → ℕ → ℕ
raised k x = if nat_le (65536 + k) x then x + 1 else x

raised-tells : (k x : ℕ) → ((raised k x ≡ x + 1) × (65536 + k ≤ x)) ⊎ ((raised k x ≡ x) × (x < 65536 + k))
raised-tells k x = elim (leb_tells (65536 + k) x) [
  | inl t ↦ inl (ap (λ (b : Bool). if b then x + 1 else x) t.0, t.1)
  | inr t ↦ inr (ap (λ (b : Bool). if b then x + 1 else x) t.0, t.1)
]

raised-low : (k x : ℕ) → x < 65536 → raised k x ≡ x
raised-low k x h = elim (raised-tells k x) [ inl t ↦ absurd (omega (arith, t.1, h)) | inr t ↦ t.0 ]

pub raised-stays : (k x : ℕ) → raised k x ≡ x → x < 65536 + k
raised-stays k x e = elim (raised-tells k x) [ inl t ↦ absurd (omega (arith, t.0, e)) | inr t ↦ t.1 ]

raised-least : (k x : ℕ) → 1 ≤ x → 1 ≤ raised k x
raised-least k x h = elim (raised-tells k x) [ inl t ↦ omega (arith, t.0) | inr t ↦ omega (arith, t.0, h) ]

raised-more : (x : ℕ) → raised 1 (x + 1) ≡ raised 0 x + 1
raised-more x = elim (raised-tells 1 (x + 1)) [
  | inl s ↦ elim (raised-tells 0 x) [ inl t ↦ omega (arith, s.0, t.0) | inr t ↦ absurd (omega (arith, s.1, t.1)) ]
  | inr s ↦ elim (raised-tells 0 x) [ inl t ↦ absurd (omega (arith, s.1, t.1)) | inr t ↦ omega (arith, s.0, t.0) ]
]

-- the widths of a list of statements, raised
abbrev raised_list : (Row → ℕ) → List PlainStatement → List ℕ → List ℕ
raised_list g [] ws = ws
raised_list g (s ∷ ss) [] = []
raised_list g (s ∷ ss) (w ∷ ws) = raised (g (row_of s)) w ∷ raised_list g ss ws

length-raised : (g : Row → ℕ) (ss : List PlainStatement) (ws : List ℕ) → length (raised_list g ss ws) ≡ length ws
length-raised g [] ws = refl
length-raised g (s ∷ ss) [] = refl
length-raised g (s ∷ ss) (w ∷ ws) = ap suc (length-raised g ss ws)

at-raised : (g : Row → ℕ) (ss : List PlainStatement) (ws : List ℕ) (p : ℕ) → length ws ≡ length ss → slice_index (raised_list g ss ws) p ≡ raised (g (row_at ss p)) (slice_index ws p)
at-raised g [] [] p e = sym (raised-low (g BadPart) 0 (omega arith))
at-raised g [] (w ∷ ws) p e = absurd (omega (arith, e))
at-raised g (s ∷ ss) [] p e = absurd (omega (arith, e))
at-raised g (s ∷ ss) (w ∷ ws) zero e = refl
at-raised g (s ∷ ss) (w ∷ ws) (suc p) e = at-raised g ss ws p (omega (arith, e))

abbrev raised_map : Item → WidthMap → WidthMap
raised_map a m = record { results = raised_list result_more a.statements m.results; operands = raised_list operands_more a.statements m.operands; root = raised 0 m.root }

-- the widths of u are those of m, raised by the rows of ss
record Raises (ss : List PlainStatement) (m u : WidthMap) : Type 0 where
  results : (p : ℕ) → result_width u p ≡ raised (result_more (row_at ss p)) (result_width m p)
  operands : (p : ℕ) → operand_width u p ≡ raised (operands_more (row_at ss p)) (operand_width m p)

low : (k x y n : ℕ) → y ≡ raised k x → x ≡ n → n < 65536 → y ≡ n
low k x y n e h l = e ∙ ap (raised k) h ∙ raised-low k n l

at-least : (k x y : ℕ) → y ≡ raised k x → 1 ≤ x → 1 ≤ y
at-least k x y e h = let l : 1 ≤ raised k x = raised-least k x h in omega (arith, e, l)

row-raised : (m u : WidthMap) (p : ℕ) (r : Row) → result_width u p ≡ raised (result_more r) (result_width m p) → operand_width u p ≡ raised (operands_more r) (operand_width m p) → HoldsRow m p r → HoldsRow u p r
row-raised m u p Input e o h = (at-least 0 (result_width m p) (result_width u p) e h.0, (low 0 (operand_width m p) (operand_width u p) 0 o h.1.0 (omega arith), tt))
row-raised m u p Block e o h = (low 0 (result_width m p) (result_width u p) 0 e h.0 (omega arith), (low 0 (operand_width m p) (operand_width u p) 0 o h.1.0 (omega arith), tt))
row-raised m u p Phi e o h = (e ∙ ap (raised 0) h.0 ∙ sym o, (at-least 0 (result_width m p) (result_width u p) e h.1.0, tt))
row-raised m u p Same e o h = (e ∙ ap (raised 0) h.0 ∙ sym o, tt)
row-raised m u p Bit e o h = (low 0 (result_width m p) (result_width u p) 1 e h.0 (omega arith), tt)
row-raised m u p Resized e o h = (at-least 0 (result_width m p) (result_width u p) e h.0, tt)
row-raised m u p Select e o h = (e ∙ ap (raised 0) h.0 ∙ sym o, tt)
row-raised m u p Pair e o h = (e ∙ ap (raised 1) h.0 ∙ raised-more (operand_width m p) ∙ ap (λ (z : ℕ). z + 1) (sym o), tt)
row-raised m u p Number e o h = (ap (λ (z : ℕ). z + 1) e ∙ sym (raised-more (result_width m p)) ∙ ap (raised 1) h.0 ∙ sym o, (at-least 0 (result_width m p) (result_width u p) e h.1.0, tt))
row-raised m u p Overflow e o h = (low 0 (result_width m p) (result_width u p) 1 e h.0 (omega arith), tt)
row-raised m u p BadPart e o h = (low 0 (result_width m p) (result_width u p) 0 e h.0 (omega arith), (low 0 (operand_width m p) (operand_width u p) 0 o h.1.0 (omega arith), tt))
row-raised m u p Condition e o h = (low 0 (result_width m p) (result_width u p) 0 e h.0 (omega arith), tt)

-- a value that is wider by k
abbrev IsWider : List PlainStatement → ℕ → Operand → Type 0
IsWider ss k (Value i) = result_more (row_at ss i) ≡ k
IsWider ss k (Constant c) = Unit {0}

constant-raised : (m u : WidthMap) (t : Option Ty) (n : Width) (k : ℕ) → width_by u n ≡ raised k (width_by m n) → FitsOptionalType t → AllByRecursion (Holds m) (constant_equations t n) → AllByRecursion (Holds u) (constant_equations t n)
constant-raised m u None n k e f h = tt
constant-raised m u (Some t) n k e f h = (sym (low k (width_by m n) (width_by u n) t.width e (sym h.0) (omega (arith, f.1))), tt)

operand-raised : (ss : List PlainStatement) (m u : WidthMap) (x : Operand) (n : Width) (k : ℕ) → Raises ss m u → width_by u n ≡ raised k (width_by m n) → FitsOperand x → IsWider ss k x
    → AllByRecursion (Holds m) (operand_equations (x, n)) → AllByRecursion (Holds u) (operand_equations (x, n))
operand-raised ss m u (Value i) n k r e f w h = (
  at-least k (width_by m n) (width_by u n) e h.0,
  (r.results i ∙ ap (λ (z : ℕ). raised z (result_width m i)) w ∙ ap (raised k) h.1.0 ∙ sym e, tt),
)
operand-raised ss m u (Constant c) n k r e f w h = (at-least k (width_by m n) (width_by u n) e h.0, constant-raised m u c.ty n k e f.1 h.1)

first-raised : (ss : List PlainStatement) (m u : WidthMap) (x : Operand) (n : Width) (k : ℕ) (zs : List (Operand × Width)) → Raises ss m u → width_by u n ≡ raised k (width_by m n) → FitsOperand x → IsWider ss k x
    → HoldsPairs m ((x, n) ∷ zs) → (HoldsPairs m zs → HoldsPairs u zs) → HoldsPairs u ((x, n) ∷ zs)
first-raised ss m u x n k zs r e f w h rest =
    All-both (Holds u) (operand_equations (x, n)) (flat_map operand_equations zs)
    (operand-raised ss m u x n k r e f w (All-first (Holds m) (operand_equations (x, n)) (flat_map operand_equations zs) h)) (rest (All-second (Holds m) (operand_equations (x, n)) (flat_map operand_equations zs) h))

-- no pair is among values of no more bits
not-pair : (o : Option PlainStatement) → ¬ IsPair o → result_more (optional_row o) ≡ 0
not-pair None h = refl
not-pair (Some s) h = by-row (row_of s) h
  where
    by-row : (r : Row) → ¬ IsPairRow r → result_more r ≡ 0
    by-row Pair n = absurd (n tt)
    by-row r n = refl

is-pair : (o : Option PlainStatement) → IsPair o → result_more (optional_row o) ≡ 1
is-pair None h = absurd h
is-pair (Some s) h = by-row (row_of s) h
  where
    by-row : (r : Row) → IsPairRow r → result_more r ≡ 1
    by-row Pair n = refl
    by-row r n = absurd n

single-wider : (ss : List PlainStatement) (x : Operand) → ¬ IsPairOperand ss x → IsWider ss 0 x
single-wider ss (Value i) h = not-pair (slice_get ss i) h
single-wider ss (Constant c) h = tt

pair-wider : (ss : List PlainStatement) (x : Operand) → IsPairOperand ss x → IsWider ss 1 x
pair-wider ss (Value i) h = is-pair (slice_get ss i) h
pair-wider ss (Constant c) h = tt

abbrev Singles : List PlainStatement → List Operand → Type 0
Singles ss xs = AllByRecursion (λ x. ¬ IsPairOperand ss x) xs

each-raised : (ss : List PlainStatement) (m u : WidthMap) (n : Width) (xs : List Operand) → Raises ss m u → width_by u n ≡ raised 0 (width_by m n) → AllByRecursion FitsOperand xs → Singles ss xs → HoldsPairs m (each_with n xs) → HoldsPairs u (each_with n xs)
each-raised ss m u n [] r e f s h = tt
each-raised ss m u n (x ∷ xs) r e f s h = first-raised ss m u x n 0 (each_with n xs) r e f.0 (single-wider ss x s.0) h (each-raised ss m u n xs r e f.1 s.1)

bits-raised : (m u : WidthMap) → width_by u (bits 1) ≡ raised 0 (width_by m (bits 1))
bits-raised m u = sym (raised-low 0 1 (omega arith))

pairs-raised : (ss : List PlainStatement) (m u : WidthMap) (p : ℕ) (r : Row) (xs : List Operand) → Raises ss m u → operand_width u p ≡ raised (operands_more r) (operand_width m p) → AllByRecursion FitsOperand xs
    → Singles ss (single_operands r xs) → TakesPair ss r xs → HoldsPairs m (row_operands p r xs) → HoldsPairs u (row_operands p r xs)
pairs-raised ss m u p Select (x ∷ xs) q e f s t h =
    first-raised ss m u x (bits 1) 0 (each_with (operands_at p) xs) q (bits-raised m u) f.0 (single-wider ss x s.0) h (each-raised ss m u (operands_at p) xs q e f.1 s.1)
pairs-raised ss m u p Number [] q e f s t h = tt
pairs-raised ss m u p Number (x ∷ xs) q e f s t h = first-raised ss m u x (operands_at p) 1 [] q e f.0 (pair-wider ss x t) h (λ k. k)
pairs-raised ss m u p Overflow [] q e f s t h = tt
pairs-raised ss m u p Overflow (x ∷ xs) q e f s t h = first-raised ss m u x (operands_at p) 1 [] q e f.0 (pair-wider ss x t) h (λ k. k)
pairs-raised ss m u p BadPart xs q e f s t h = tt
pairs-raised ss m u p r xs q e f s t h = each-raised ss m u (operands_at p) xs q e f s h

type-raised : (m u : WidthMap) (t : Option Ty) (x : Width) (k : ℕ) → width_by u x ≡ raised k (width_by m x) → FitsOptionalType t → AllByRecursion (Holds m) (type_equations t x) → AllByRecursion (Holds u) (type_equations t x)
type-raised m u None x k e f h = tt
type-raised m u (Some t) x k e f h = (low k (width_by m x) (width_by u x) t.width e h.0 (omega (arith, f.1)), tt)

written-raised : (m u : WidthMap) (p : ℕ) (s : PlainStatement) (k : ℕ) → result_width u p ≡ raised k (result_width m p) → FitsStatement s → HoldsType m p s → HoldsType u p s
written-raised m u p (assigned a) k e f h = type-raised m u a.ty (result_of p) k e f.type_fits h
written-raised m u p (condition c) k e f h = tt
written-raised m u p (block_condition c) k e f h = tt

statement-raised : (ss : List PlainStatement) (m u : WidthMap) (p : ℕ) (s : PlainStatement) → Raises ss m u → slice_get ss p ≡ Some s → FitsStatement s → AllByRecursion (ShapedStatement ss s) shape_reasons → HoldsStatement m p s → HoldsStatement u p s
statement-raised ss m u p s q at f shape h =
    let r : row_at ss p ≡ row_of s = ap optional_row at in
    let e : result_width u p ≡ raised (result_more (row_of s)) (result_width m p) = q.results p ∙ ap (λ (z : Row). raised (result_more z) (result_width m p)) r in
    let o : operand_width u p ≡ raised (operands_more (row_of s)) (operand_width m p) = q.operands p ∙ ap (λ (z : Row). raised (operands_more z) (operand_width m p)) r in
    of-parts u p s (written-raised m u p s (result_more (row_of s)) e f (type-part m p s h)) (row-raised m u p (row_of s) e o (row-part m p s h))
    (pairs-raised ss m u p (row_of s) (operands_in s) q o (operands-fit s f) shape.1.1.1.0 shape.1.1.1.1.0 (pairs-part m p s h))

optional-raised : (ss : List PlainStatement) (m u : WidthMap) (p : ℕ) (o : Option PlainStatement) → Raises ss m u → slice_get ss p ≡ o → ((s : PlainStatement) → o ≡ Some s → FitsStatement s) → AllByRecursion (ShapedOptional ss o) shape_reasons
    → AllByRecursion (Holds m) (statement_equations p o) → AllByRecursion (Holds u) (statement_equations p o)
optional-raised ss m u p None q at f shape h = tt
optional-raised ss m u p (Some s) q at f shape h = statement-raised ss m u p s q at (f s refl) shape h

map-raises : (a : Item) (m : WidthMap) → HasWidths a m → Raises a.statements m (raised_map a m)
map-raises a m h = record { results = λ p. at-raised result_more a.statements m.results p h.results; operands = λ p. at-raised operands_more a.statements m.operands p h.operands }

line-raised : (a : Item) (m : WidthMap) (l : FlawLocation) → WellFormed a → HasWidths a m → Singles a.statements (line_operands l a.ending) → HoldsPairs m (each_with of_root (line_operands l a.ending)) → HoldsPairs (raised_map a m) (each_with of_root (line_operands l a.ending))
line-raised a m l w h s k = each-raised a.statements m (raised_map a m) of_root (line_operands l a.ending) (map-raises a m h) refl (line-fits l a.ending w.ending_fits) s k

raised-solves : (a : Item) (m : WidthMap) → WellFormed a → Typed a m → (l : FlawLocation) → IsPlace a l → SolvesAt a (raised_map a m) l
raised-solves a m w t (Statement p) n = optional-raised a.statements m (raised_map a m) p (slice_get a.statements p) (map-raises a m t.has) refl (fits-at a p w n) (t.shape (Statement p) n) (t.has.holds (Statement p) n)
raised-solves a m w t Infer n = line-raised a m Infer w t.has (t.shape Infer n).1.1.1.0 (t.has.holds Infer n)
raised-solves a m w t Result n = line-raised a m Result w t.has (t.shape Result n).1.1.1.0 (t.has.holds Result n)
raised-solves a m w t Cand n = line-raised a m Cand w t.has (t.shape Cand n).1.1.1.0 (t.has.holds Cand n)

raised-has : (a : Item) (m : WidthMap) → WellFormed a → Typed a m → HasWidths a (raised_map a m)
raised-has a m w t =
    let q : Raises a.statements m (raised_map a m) = map-raises a m t.has in
    record {
      results = length-raised result_more a.statements m.results ∙ t.has.results;
      operands = length-raised operands_more a.statements m.operands ∙ t.has.operands;
      holds = raised-solves a m w t;
      unneeded = λ p n. (
        low (result_more (row_at a.statements p)) (result_width m p) (result_width (raised_map a m) p) 0 (q.results p) (t.has.unneeded p n).0 (omega arith),
        low (operands_more (row_at a.statements p)) (operand_width m p) (operand_width (raised_map a m) p) 0 (q.operands p) (t.has.unneeded p n).1 (omega arith),
      );
    }

-- each width is below 65536, or below 65537 of a pair
pub result-below : (a : Item) (m : WidthMap) (p : ℕ) → WellFormed a → Typed a m → result_width m p < 65536 + result_more (row_at a.statements p)
result-below a m p w t =
    let k : ℕ = result_more (row_at a.statements p) in
    let e : raised_map a m ≡ m = t.only (raised_map a m) (raised-has a m w t) in
    raised-stays k (result_width m p) (sym ((map-raises a m t.has).results p) ∙ ap (λ (z : WidthMap). result_width z p) e)

pub operands-below : (a : Item) (m : WidthMap) (p : ℕ) → WellFormed a → Typed a m → operand_width m p < 65536 + operands_more (row_at a.statements p)
operands-below a m p w t =
    let k : ℕ = operands_more (row_at a.statements p) in
    let e : raised_map a m ≡ m = t.only (raised_map a m) (raised-has a m w t) in
    raised-stays k (operand_width m p) (sym ((map-raises a m t.has).operands p) ∙ ap (λ (z : WidthMap). operand_width z p) e)

pub root-below : (a : Item) (m : WidthMap) → WellFormed a → Typed a m → m.root < 65536
root-below a m w t = raised-stays 0 m.root (ap (λ (z : WidthMap). z.root) (t.only (raised_map a m) (raised-has a m w t)))

pub single-below : (a : Item) (m : WidthMap) (p : ℕ) → WellFormed a → Typed a m → ¬ IsPair (slice_get a.statements p) → result_width m p < 65536
single-below a m p w t n = let e : result_more (row_at a.statements p) ≡ 0 = not-pair (slice_get a.statements p) n in let h : result_width m p < 65536 + result_more (row_at a.statements p) = result-below a m p w t in omega (arith, e, h)
