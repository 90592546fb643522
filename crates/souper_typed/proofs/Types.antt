-- Each needed value, and each constant, has the type of its width, but for pairs of 65536 bits.
use Rattle.std.proofs.Common.{◌≡◌, ℕ, ◌+◌, ◌<◌, ◌≤◌, ◌⊎◌, inl, inr, List, [], ◌∷◌, ◌++◌, map, length, Option, Some, None, refl, sym, ap, subst, ◌∙◌, arith}
use Rattle.std.specs.Prelude.{flat_map, slice_get, option_map}
use Rattle.std.specs.List.{AllByRecursion}
use Rattle.std.proofs.lemmas.Bool.{cases_lt}
use Rattle.souper_graph.specs.declared.ast.operands.«Type».{«Type» as Ty}
use Rattle.souper_graph.specs.declared.ast.operands.Operand.{Operand}
use Rattle.souper_graph.specs.declared.ast.operands.Operand.TheVariants.{Value, Constant}
use Rattle.souper_graph.specs.declared.ast.flaws.FlawLocation.{FlawLocation}
use Rattle.souper_graph.specs.declared.ast.flaws.FlawLocation.TheVariants.{Statement, Infer, Result, Cand}
use Rattle.souper_graph.specs.Values.{PlainAssignment, PlainStatement, assigned, condition, block_condition, Item}
use Rattle.souper_graph.specs.Uses.{NeededIn}
use Rattle.souper_graph.specs.WellFormed.{WellFormed}
use Rattle.souper_graph.specs.Flaws.{line_operands}
use Rattle.souper_graph.proofs.Judging.Closed.{All-first, All-second}
use Rattle.souper_widths.specs.declared.rows.Row.{Row}
use Rattle.souper_widths.specs.declared.rows.Row.TheVariants.{Select, Pair, Number, Overflow, BadPart}
use Rattle.souper_widths.specs.Maps.{WidthMap, result_width, operand_width}
use Rattle.souper_widths.specs.Equations.{Width, operands_at, of_root, bits, width_by, Holds, operand_equations}
use Rattle.souper_widths.specs.Table.{row_of, operands_in, written_type, each_with, row_operands, statement_operands, statement_equations}
use Rattle.souper_widths.specs.Places.{IsPlace, optional_operands, operands_with_widths}
use Rattle.souper_widths.specs.Shape.{IsPairRow, IsPair, IsPairOperand, TakesPair, ShapedOptional, shape_reasons}
use Rattle.souper_widths.specs.Typed.{Typed}
use Rattle.souper_widths.specs.Ties.{result_more, operands_more}
use Rattle.souper_widths.specs.Nodes.{row_at, optional_row}
use Rattle.souper_typed.specs.declared.form.Form.{Form}
use Rattle.souper_typed.specs.Numbers.{type_of}
use Rattle.souper_typed.specs.Types.{type_with, HasOwnType}
use Rattle.souper_typed.specs.Written.{written_item, written_from}
use Rattle.souper_typed.proofs.WrittenNumbers.{type-some}
use Rattle.souper_typed.proofs.Lists.{all-map}
use Rattle.souper_typed.proofs.Equations.{written_pair}
use Rattle.souper_typed.proofs.Places.{HoldsPairs, HoldsStatement, typed_at, pairs-are, pairs-part, pair-to}
use Rattle.souper_typed.proofs.Graphs.{needed-from, was-there}
use Rattle.souper_typed.proofs.Widths.{stands, line-pairs, line-from}
use Rattle.souper_typed.proofs.Raised.{result-below, operands-below, root-below}

-- the type of a width from 1 to 65535
pub type-is : (n : ℕ) → 1 ≤ n → n < 65536 → type_of n ≡ type_with n
type-is n l h = type-some (record { width = n }) n (omega (arith, l), omega (arith, h)) refl

-- a constant is as wide as a type can be
abbrev IsNarrow : WidthMap → Operand × Width → Type 0
IsNarrow m (Value i, n) = Unit {0}
IsNarrow m (Constant c, n) = (1 ≤ width_by m n) × (width_by m n < 65536)

own-type : (f : Form) (m : WidthMap) (z : Operand × Width) → IsNarrow m z → HasOwnType m (written_pair f m z)
own-type f m (Value i, n) h = tt
own-type f m (Constant c, n) h = type-is (width_by m n) h.0 h.1

own-types : (f : Form) (m : WidthMap) (zs : List (Operand × Width)) → AllByRecursion (IsNarrow m) zs → AllByRecursion (HasOwnType m) (map (written_pair f m) zs)
own-types f m zs h = all-map (IsNarrow m) (HasOwnType m) (written_pair f m) (own-type f m) zs h

narrow : (m : WidthMap) (x : Operand) (n : Width) → width_by m n < 65536 → AllByRecursion (Holds m) (operand_equations (x, n)) → IsNarrow m (x, n)
narrow m (Value i) n l h = tt
narrow m (Constant c) n l h = (h.0, l)

first-narrow : (m : WidthMap) (x : Operand) (n : Width) (zs : List (Operand × Width)) → width_by m n < 65536 → HoldsPairs m ((x, n) ∷ zs) → (HoldsPairs m zs → AllByRecursion (IsNarrow m) zs) → AllByRecursion (IsNarrow m) ((x, n) ∷ zs)
first-narrow m x n zs l h rest = (narrow m x n l (All-first (Holds m) (operand_equations (x, n)) (flat_map operand_equations zs) h), rest (All-second (Holds m) (operand_equations (x, n)) (flat_map operand_equations zs) h))

each-narrow : (m : WidthMap) (n : Width) (xs : List Operand) → width_by m n < 65536 → HoldsPairs m (each_with n xs) → AllByRecursion (IsNarrow m) (each_with n xs)
each-narrow m n [] l h = tt
each-narrow m n (x ∷ xs) l h = first-narrow m x n (each_with n xs) l h (each-narrow m n xs l)

pair-narrow : (ss : List PlainStatement) (m : WidthMap) (x : Operand) (n : Width) → IsPairOperand ss x → IsNarrow m (x, n)
pair-narrow ss m (Value i) n h = tt
pair-narrow ss m (Constant c) n h = absurd h

row-narrow : (ss : List PlainStatement) (m : WidthMap) (p : ℕ) (r : Row) (xs : List Operand) → operand_width m p < 65536 + operands_more r → TakesPair ss r xs → HoldsPairs m (row_operands p r xs) → AllByRecursion (IsNarrow m) (row_operands p r xs)
row-narrow ss m p Select (x ∷ xs) l t h = first-narrow m x (bits 1) (each_with (operands_at p) xs) (omega arith) h (each-narrow m (operands_at p) xs (omega (arith, l)))
row-narrow ss m p Number [] l t h = tt
row-narrow ss m p Number (x ∷ xs) l t h = (pair-narrow ss m x (operands_at p) t, tt)
row-narrow ss m p Overflow [] l t h = tt
row-narrow ss m p Overflow (x ∷ xs) l t h = (pair-narrow ss m x (operands_at p) t, tt)
row-narrow ss m p BadPart xs l t h = tt
row-narrow ss m p r xs l t h = each-narrow m (operands_at p) xs (omega (arith, l)) h

optional-narrow : (ss : List PlainStatement) (m : WidthMap) (p : ℕ) (o : Option PlainStatement) → operand_width m p < 65536 + operands_more (optional_row o) → AllByRecursion (ShapedOptional ss o) shape_reasons
    → AllByRecursion (Holds m) (statement_equations p o) → AllByRecursion (IsNarrow m) (optional_operands p o)
optional-narrow ss m p None l shape h = tt
optional-narrow ss m p (Some s) l shape h = row-narrow ss m p (row_of s) (operands_in s) l shape.1.1.1.1.0 (pairs-part m p s h)

optional-types : (f : Form) (m : WidthMap) (p : ℕ) (o : Option PlainStatement) → AllByRecursion (IsNarrow m) (optional_operands p o) → AllByRecursion (HasOwnType m) (optional_operands p (option_map (typed_at f m p) o))
optional-types f m p None h = tt
optional-types f m p (Some s) h = subst (AllByRecursion (HasOwnType m)) (sym (pairs-are f m p s)) (own-types f m (statement_operands p s) h)

line-types : (f : Form) (m : WidthMap) (a : Item) (l : FlawLocation) → WellFormed a → Typed a m → HoldsPairs m (each_with of_root (line_operands l a.ending)) → AllByRecursion (HasOwnType m) (each_with of_root (line_operands l (written_item f m a).ending))
line-types f m a l w t h = subst (AllByRecursion (HasOwnType m)) (sym (line-pairs f m l a.ending)) (own-types f m (each_with of_root (line_operands l a.ending)) (each-narrow m of_root (line_operands l a.ending) (root-below a m w t) h))

pub constant-types : (f : Form) (m : WidthMap) (a : Item) (l : FlawLocation) → WellFormed a → Typed a m → IsPlace (written_item f m a) l → AllByRecursion (HasOwnType m) (operands_with_widths (written_item f m a) l)
constant-types f m a (Statement p) w t n =
    let k : NeededIn a p = needed-from f m a p n in
    subst (λ (z : Option PlainStatement). AllByRecursion (HasOwnType m) (optional_operands p z)) (sym (stands f m a p t k))
    (optional-types f m p (slice_get a.statements p) (optional-narrow a.statements m p (slice_get a.statements p) (operands-below a m p w t) (t.shape (Statement p) k) (t.has.holds (Statement p) k)))
constant-types f m a Infer w t n = line-types f m a Infer w t (t.has.holds Infer (line-from f m.root Infer a.ending n))
constant-types f m a Result w t n = line-types f m a Result w t (t.has.holds Result (line-from f m.root Result a.ending n))
constant-types f m a Cand w t n = line-types f m a Cand w t (t.has.holds Cand (line-from f m.root Cand a.ending n))

-- the type of a needed value
more-pair : (o : Option PlainStatement) → 1 ≤ result_more (optional_row o) → IsPair o
more-pair None h = absurd (omega (arith, h))
more-pair (Some s) h = by-row (row_of s) h
  where
    by-row : (r : Row) → 1 ≤ result_more r → IsPairRow r
    by-row Pair l = tt
    by-row r l = absurd (omega (arith, l))

more-one : (r : Row) → result_more r ≤ 1
more-one Pair = omega arith
more-one r = omega arith

type-there : (f : Form) (m : WidthMap) (p : ℕ) (s : PlainStatement) (v : PlainAssignment) → typed_at f m p s ≡ assigned v → v.ty ≡ type_of (result_width m p)
type-there f m p (assigned a) v e = sym (ap written_type e)
type-there f m p (condition c) v e = absurd (cc)
type-there f m p (block_condition c) v e = absurd (cc)

value-type : (f : Form) (m : WidthMap) (a : Item) (p : ℕ) (v : PlainAssignment) → Typed a m → NeededIn a p → slice_get (written_from f m 0 a.statements) p ≡ Some (assigned v) → v.ty ≡ type_of (result_width m p)
value-type f m a p v t n e =
    let r = was-there (typed_at f m p) (slice_get a.statements p) (assigned v) (sym (stands f m a p t n) ∙ e) in
    type-there f m p r.0 v r.2

one-of : (a : Item) (m : WidthMap) (p : ℕ) → WellFormed a → Typed a m → (result_width m p < 65536) ⊎ (IsPair (slice_get a.statements p) × (result_width m p ≡ 65536))
one-of a m p w t =
    let l : result_width m p < 65536 + result_more (row_at a.statements p) = result-below a m p w t in
    let o : result_more (row_at a.statements p) ≤ 1 = more-one (row_at a.statements p) in
    elim (cases_lt (result_width m p) 65536) [
      | inl h ↦ inl h
      | inr h ↦ inr (more-pair (slice_get a.statements p) (omega (arith, l, h)), omega (arith, l, o, h))
    ]

pub value-types : (f : Form) (m : WidthMap) (a : Item) (p : ℕ) (v : PlainAssignment) → WellFormed a → Typed a m → NeededIn (written_item f m a) p → slice_get (written_from f m 0 a.statements) p ≡ Some (assigned v) → 0 < result_width m p
    → (v.ty ≡ type_with (result_width m p)) ⊎ (IsPair (slice_get (written_from f m 0 a.statements) p) × (result_width m p ≡ 65536))
value-types f m a p v w t n e l = elim (one-of a m p w t) [
  | inl h ↦ inl (value-type f m a p v t (needed-from f m a p n) e ∙ type-is (result_width m p) (omega (arith, l)) h)
  | inr h ↦ inr (pair-to f m a.statements p h.0, h.1)
]
