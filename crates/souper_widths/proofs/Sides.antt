-- The sides of the ties of a place are nodes of the item, or numbers above 0.
use Rattle.std.proofs.Common.{◌≡◌, ℕ, ◌+◌, ◌-◌, ◌*◌, ◌<◌, ◌≤◌, inl, inr, Bool, true, false, cond, List, [], ◌∷◌, ◌++◌, length, Option, Some, None, refl, sym, subst, arith}
use Rattle.std.specs.Prelude.{flat_map, slice_get, ◌||◌}
use Rattle.std.specs.List.{AllByRecursion}
use Rattle.std.proofs.lemmas.Bool.Decides.{eqb_tells}
use Rattle.souper_graph.specs.declared.ast.operands.«Type».{«Type» as Ty}
use Rattle.souper_graph.specs.declared.ast.operands.Operand.{Operand}
use Rattle.souper_graph.specs.declared.ast.operands.Operand.TheVariants.{Value, Constant}
use Rattle.souper_graph.specs.declared.ast.flaws.FlawLocation.{FlawLocation}
use Rattle.souper_graph.specs.declared.ast.flaws.FlawLocation.TheVariants.{Statement, Infer, Result, Cand}
use Rattle.souper_graph.specs.Values.{PlainStatement, Item}
use Rattle.souper_graph.specs.Uses.{NeededIn}
use Rattle.souper_graph.specs.WellFormed.{WellFormed}
use Rattle.souper_graph.specs.Flaws.{line_operands}
use Rattle.souper_graph.proofs.Judging.Needed.{statement_at, well_formed_inside, well_formed_stands}
use Rattle.souper_graph.proofs.Judging.Closed.{All-both}
use Rattle.souper_widths.specs.declared.rows.Row.{Row}
use Rattle.souper_widths.specs.declared.rows.Row.TheVariants.{Input, Block, Phi, Same, Bit, Resized, Select, Pair, Number as number_row, Overflow, BadPart, Condition}
use Rattle.souper_widths.specs.declared.ties.Side.{Side}
use Rattle.souper_widths.specs.declared.ties.Side.TheVariants.{Number}
use Rattle.souper_widths.specs.Equations.{Width, result_of, operands_at, of_root, bits, one_more, Equation, equal, at_least_one, type_equations, constant_equations, operand_equations}
use Rattle.souper_widths.specs.Table.{row_of, operands_in, written_type, row_equations, each_with, row_operands, statement_equations}
use Rattle.souper_widths.specs.Places.{IsPlace, equations_at}
use Rattle.souper_widths.specs.Forest.{IsSide}
use Rattle.souper_widths.specs.Ties.{more_of, side_of, is_zero, ties_of, HasSides, IsOperandBelow}
use Rattle.souper_widths.specs.Nodes.{OperandMet, place_row, ties_at}
use Rattle.souper_widths.proofs.MetOperands.{statement-met, infer-met, result-met, cand-met}

-- the statements that a width speaks of are among so many
abbrev pub IsBelow : ℕ → Width → Type 0
IsBelow count (result_of p) = p < count
IsBelow count (operands_at p) = p < count
IsBelow count of_root = Unit {0}
IsBelow count (bits n) = Unit {0}
IsBelow count (one_more x) = IsBelow count x

abbrev pub EquationBelow : ℕ → Equation → Type 0
EquationBelow count (equal x y) = IsBelow count x × IsBelow count y
EquationBelow count (at_least_one x) = Unit {0}

above-zero : (n : ℕ) → is_zero (Number n) ≡ false → 0 < n
above-zero n e = elim (eqb_tells n 0) [ inl t ↦ absurd (cc (e, t.0)) | inr t ↦ omega (arith, t.1) ]

side-is : (count c k : ℕ) (x : Width) → c ≤ count → IsBelow count x → is_zero (side_of c k x) ≡ false → IsSide (2 * count + 1) (side_of c k x)
side-is count c k (result_of p) l b z = omega (arith, b)
side-is count c k (operands_at p) l b z = omega (arith, b)
side-is count c k of_root l b z = omega (arith, l)
side-is count c k (bits n) l b z = above-zero (n - k) z
side-is count c k (one_more x) l b z = side-is count c k x l b z

-- a tie is left out if a side is 0
sides-unless : (n : ℕ) (l r : Side) (k : ℕ) (b d : Bool) → is_zero l ≡ b → is_zero r ≡ d → (is_zero l ≡ false → IsSide n l) → (is_zero r ≡ false → IsSide n r)
    → AllByRecursion (HasSides n) (cond (b || d) [] (record { left = l; right = r; more = k } ∷ []))
sides-unless n l r k true d e f g h = tt
sides-unless n l r k false true e f g h = tt
sides-unless n l r k false false e f g h = ((g e, h f), tt)

ties-below : (count c : ℕ) (r : Row) (e : Equation) → c ≤ count → EquationBelow count e → AllByRecursion (HasSides (2 * count + 1)) (ties_of c r e)
ties-below count c r (equal x y) l b =
    sides-unless (2 * count + 1) (side_of c (more_of r x y) x) (side_of c (more_of r x y) y) (more_of r x y) (is_zero (side_of c (more_of r x y) x)) (is_zero (side_of c (more_of r x y) y)) refl refl
    (side-is count c (more_of r x y) x l b.0) (side-is count c (more_of r x y) y l b.1)
ties-below count c r (at_least_one x) l b = tt

all-below : (count c : ℕ) (r : Row) (es : List Equation) → c ≤ count → AllByRecursion (EquationBelow count) es → AllByRecursion (HasSides (2 * count + 1)) (flat_map (ties_of c r) es)
all-below count c r [] l b = tt
all-below count c r (e ∷ es) l b = All-both (HasSides (2 * count + 1)) (ties_of c r e) (flat_map (ties_of c r) es) (ties-below count c r e l b.0) (all-below count c r es l b.1)

type-below : (count p : ℕ) (t : Option Ty) → p < count → AllByRecursion (EquationBelow count) (type_equations t (result_of p))
type-below count p None l = tt
type-below count p (Some t) l = ((l, tt), tt)

row-below : (count p : ℕ) (r : Row) → p < count → AllByRecursion (EquationBelow count) (row_equations p r)
row-below count p Input l = (tt, ((l, tt), tt))
row-below count p Block l = ((l, tt), ((l, tt), tt))
row-below count p Phi l = ((l, l), (tt, tt))
row-below count p Same l = ((l, l), tt)
row-below count p Bit l = ((l, tt), tt)
row-below count p Resized l = (tt, tt)
row-below count p Select l = ((l, l), tt)
row-below count p Pair l = ((l, l), tt)
row-below count p number_row l = ((l, l), (tt, tt))
row-below count p Overflow l = ((l, tt), tt)
row-below count p BadPart l = ((l, tt), ((l, tt), tt))
row-below count p Condition l = ((l, tt), tt)

constant-below : (count : ℕ) (t : Option Ty) (n : Width) → IsBelow count n → AllByRecursion (EquationBelow count) (constant_equations t n)
constant-below count None n b = tt
constant-below count (Some t) n b = ((tt, b), tt)

operand-below : (count : ℕ) (x : Operand) (n : Width) → IsBelow count n → IsOperandBelow count x → AllByRecursion (EquationBelow count) (operand_equations (x, n))
operand-below count (Value i) n b h = (tt, ((h, b), tt))
operand-below count (Constant k) n b h = (tt, constant-below count k.ty n b)

operands-below : (count : ℕ) (xs : List Operand) (n : Width) → IsBelow count n → AllByRecursion (IsOperandBelow count) xs → AllByRecursion (EquationBelow count) (flat_map operand_equations (each_with n xs))
operands-below count [] n b h = tt
operands-below count (x ∷ xs) n b h = All-both (EquationBelow count) (operand_equations (x, n)) (flat_map operand_equations (each_with n xs)) (operand-below count x n b h.0) (operands-below count xs n b h.1)

first-below : (count : ℕ) (x : Operand) (n : Width) → IsBelow count n → IsOperandBelow count x → AllByRecursion (EquationBelow count) (operand_equations (x, n) ++ [])
first-below count x n b h = All-both (EquationBelow count) (operand_equations (x, n)) [] (operand-below count x n b h) tt

row_operands-below : (count p : ℕ) (r : Row) (xs : List Operand) → p < count → AllByRecursion (IsOperandBelow count) xs → AllByRecursion (EquationBelow count) (flat_map operand_equations (row_operands p r xs))
row_operands-below count p Input xs l h = operands-below count xs (operands_at p) l h
row_operands-below count p Block xs l h = operands-below count xs (operands_at p) l h
row_operands-below count p Phi xs l h = operands-below count xs (operands_at p) l h
row_operands-below count p Same xs l h = operands-below count xs (operands_at p) l h
row_operands-below count p Bit xs l h = operands-below count xs (operands_at p) l h
row_operands-below count p Resized xs l h = operands-below count xs (operands_at p) l h
row_operands-below count p Pair xs l h = operands-below count xs (operands_at p) l h
row_operands-below count p Condition xs l h = operands-below count xs (operands_at p) l h
row_operands-below count p Select [] l h = tt
row_operands-below count p Select (x ∷ xs) l h = All-both (EquationBelow count) (operand_equations (x, bits 1)) (flat_map operand_equations (each_with (operands_at p) xs)) (operand-below count x (bits 1) tt h.0) (operands-below count xs (operands_at p) l h.1)
row_operands-below count p number_row [] l h = tt
row_operands-below count p number_row (x ∷ xs) l h = first-below count x (operands_at p) l h.0
row_operands-below count p Overflow [] l h = tt
row_operands-below count p Overflow (x ∷ xs) l h = first-below count x (operands_at p) l h.0
row_operands-below count p BadPart xs l h = tt

pub operand-is_below : (a : Item) (count p : ℕ) (x : Operand) → p ≤ count → OperandMet a p x → IsOperandBelow count x
operand-is_below a count p (Value i) l h = omega (arith, l, h.0)
operand-is_below a count p (Constant k) l h = tt

pub operands-are_below : (a : Item) (count p : ℕ) (xs : List Operand) → p ≤ count → AllByRecursion (OperandMet a p) xs → AllByRecursion (IsOperandBelow count) xs
operands-are_below a count p [] l h = tt
operands-are_below a count p (x ∷ xs) l h = (operand-is_below a count p x l h.0, operands-are_below a count p xs l h.1)

statement-below : (a : Item) (p : ℕ) (s : PlainStatement) → WellFormed a → NeededIn a p → slice_get a.statements p ≡ Some s → AllByRecursion (EquationBelow (length a.statements)) (statement_equations p (slice_get a.statements p))
statement-below a p s w n e =
    let l : p < length a.statements = well_formed_inside a w p n in
    subst (λ (o : Option PlainStatement). AllByRecursion (EquationBelow (length a.statements)) (statement_equations p o)) (sym e)
    (All-both (EquationBelow (length a.statements)) (type_equations (written_type s) (result_of p)) (row_equations p (row_of s) ++ flat_map operand_equations (row_operands p (row_of s) (operands_in s)))
    (type-below (length a.statements) p (written_type s) l)
    (All-both (EquationBelow (length a.statements)) (row_equations p (row_of s)) (flat_map operand_equations (row_operands p (row_of s) (operands_in s)))
    (row-below (length a.statements) p (row_of s) l)
    (row_operands-below (length a.statements) p (row_of s) (operands_in s) l (operands-are_below a (length a.statements) p (operands_in s) (omega (arith, l)) (statement-met a p s w n e)))))

line-below : (a : Item) (xs : List Operand) → AllByRecursion (OperandMet a (length a.statements)) xs → AllByRecursion (EquationBelow (length a.statements)) (flat_map operand_equations (each_with of_root xs))
line-below a xs h = operands-below (length a.statements) xs of_root tt (operands-are_below a (length a.statements) (length a.statements) xs (omega arith) h)

pub place-sides : (a : Item) (l : FlawLocation) → WellFormed a → IsPlace a l → AllByRecursion (HasSides (2 * length a.statements + 1)) (ties_at a l)
place-sides a (Statement p) w n = all-below (length a.statements) 0 (place_row a (Statement p)) (equations_at a (Statement p)) (omega arith) (statement-below a p (statement_at a.statements p) w n (well_formed_stands a w p n))
place-sides a Infer w n = all-below (length a.statements) (length a.statements) Condition (equations_at a Infer) (omega arith) (line-below a (line_operands Infer a.ending) (infer-met a w))
place-sides a Result w n = all-below (length a.statements) (length a.statements) Condition (equations_at a Result) (omega arith) (line-below a (line_operands Result a.ending) (result-met a w))
place-sides a Cand w n = all-below (length a.statements) (length a.statements) Condition (equations_at a Cand) (omega arith) (line-below a (line_operands Cand a.ending) (cand-met a w))
