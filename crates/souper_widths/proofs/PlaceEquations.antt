-- Each equation of a place follows the map, and nodes that tie its sides tell it.
use Rattle.std.proofs.Common.{◌≡◌, ℕ, ◌+◌, ◌-◌, ◌*◌, ◌<◌, List, [], ◌∷◌, length, Option, Some, sym, ap, subst, ◌∙◌, arith}
use Rattle.std.specs.Prelude.{flat_map, slice_get}
use Rattle.std.specs.List.{AllByRecursion}
use Rattle.souper_graph.specs.declared.ast.operands.Operand.{Operand}
use Rattle.souper_graph.specs.declared.ast.flaws.FlawLocation.{FlawLocation}
use Rattle.souper_graph.specs.declared.ast.flaws.FlawLocation.TheVariants.{Statement, Infer, Result, Cand}
use Rattle.souper_graph.specs.Values.{PlainStatement, Item}
use Rattle.souper_graph.specs.Uses.{NeededIn}
use Rattle.souper_graph.specs.WellFormed.{WellFormed}
use Rattle.souper_graph.specs.Flaws.{line_operands}
use Rattle.souper_graph.proofs.Judging.Needed.{statement_at, well_formed_inside, well_formed_stands}
use Rattle.souper_graph.proofs.Judging.Closed.{All-both, All-first, All-second}
use Rattle.souper_widths.specs.declared.rows.Row.{Row}
use Rattle.souper_widths.specs.declared.rows.Row.TheVariants.{Condition}
use Rattle.souper_widths.specs.Maps.{WidthMap, result_width, operand_width}
use Rattle.souper_widths.specs.Equations.{of_root, Equation, Holds, operand_equations}
use Rattle.souper_widths.specs.Table.{row_of, operands_in, each_with, statement_equations}
use Rattle.souper_widths.specs.Places.{IsPlace, equations_at, SolvesAt}
use Rattle.souper_widths.specs.Shape.{HasShape}
use Rattle.souper_widths.specs.Flaws.{IsNarrowPairStatement, IsNarrowPair}
use Rattle.souper_widths.specs.Ties.{result_more, operands_more, ties_of, IsTied, AreTied, shown_result, shown_operands}
use Rattle.souper_widths.specs.Nodes.{row_at, optional_row, FollowsMap, ShowsNodes, OperandMet, place_row, place_count, ties_at}
use Rattle.souper_widths.proofs.OwnRows.{statement-row_operands}
use Rattle.souper_widths.proofs.MetOperands.{statement-met, infer-met, result-met, cand-met}
use Rattle.souper_widths.proofs.Premises.{SinglesOf, NoBlocks, single-nodes, single-operands, row-shown, written-shown, shaped, row-is, statement-nodes}
use Rattle.souper_widths.proofs.EachEquation.{FollowsEquation, TellsEquation, follows-tied, follows-statement, follows-line, tells-statement, tells-line}

statement-follows : (a : Item) (m : WidthMap) (u : ℕ → ℕ) (p : ℕ) (s : PlainStatement) → WellFormed a → HasShape a → FollowsMap a m u → NeededIn a p → slice_get a.statements p ≡ Some s
    → AllByRecursion (FollowsEquation m u 0 (row_at a.statements p)) (statement_equations p (slice_get a.statements p))
statement-follows a m u p s w h f n e =
    let l : p < length a.statements = well_formed_inside a w p n in
    subst (λ (o : Option PlainStatement). AllByRecursion (FollowsEquation m u 0 (optional_row o)) (statement_equations p o)) (sym e)
    (follows-statement m u 0 p s
    (f.results p l ∙ ap (λ (r : Row). result_width m p - result_more r) (row-is a p s e))
    (f.operands p l ∙ ap (λ (r : Row). operand_width m p - operands_more r) (row-is a p s e))
    (statement-nodes a m u p s w h f l n e))

line-follows : (a : Item) (m : WidthMap) (u : ℕ → ℕ) (xs : List Operand) → FollowsMap a m u → AllByRecursion (OperandMet a (length a.statements)) xs → SinglesOf a xs
    → AllByRecursion (FollowsEquation m u (length a.statements) Condition) (flat_map operand_equations (each_with of_root xs))
line-follows a m u xs f met single = follows-line m u (length a.statements) xs f.root (single-nodes a m u (length a.statements) xs f (omega arith) met single)

pub place-follows : (a : Item) (m : WidthMap) (u : ℕ → ℕ) (l : FlawLocation) → WellFormed a → HasShape a → FollowsMap a m u → IsPlace a l → AllByRecursion (FollowsEquation m u (place_count a l) (place_row a l)) (equations_at a l)
place-follows a m u (Statement p) w h f n = statement-follows a m u p (statement_at a.statements p) w h f n (well_formed_stands a w p n)
place-follows a m u Infer w h f n = line-follows a m u (line_operands Infer a.ending) f (infer-met a w) (h Infer n).1.1.1.0
place-follows a m u Result w h f n = line-follows a m u (line_operands Result a.ending) f (result-met a w) (h Result n).1.1.1.0
place-follows a m u Cand w h f n = line-follows a m u (line_operands Cand a.ending) f (cand-met a w) (h Cand n).1.1.1.0

statement-tells : (a : Item) (m : WidthMap) (u : ℕ → ℕ) (p : ℕ) (s : PlainStatement) → WellFormed a → HasShape a → ShowsNodes a m u → ((x : ℕ) → 0 < u x) → NeededIn a p → slice_get a.statements p ≡ Some s
    → ¬ IsNarrowPairStatement (slice_get a.statements p) → AllByRecursion (TellsEquation m u 0 (row_at a.statements p)) (statement_equations p (slice_get a.statements p))
statement-tells a m u p s w h f above n e wide =
    let t = shaped a p s h n e in
    let result : result_width m p ≡ shown_result (row_of s) (u (2 * p)) = f.results p n ∙ ap (λ (r : Row). shown_result r (u (2 * p))) (row-is a p s e) in
    let operands : operand_width m p ≡ shown_operands (row_of s) (u (2 * p + 1)) = f.operands p n ∙ ap (λ (r : Row). shown_operands r (u (2 * p + 1))) (row-is a p s e) in
    let narrow : ¬ IsNarrowPairStatement (Some s) = subst (λ (o : Option PlainStatement). ¬ IsNarrowPairStatement o) e wide in
    subst (λ (o : Option PlainStatement). AllByRecursion (TellsEquation m u 0 (optional_row o)) (statement_equations p o)) (sym e)
    (tells-statement m u 0 p s result operands (above (2 * p)) (above (2 * p + 1))
    (written-shown m u p s result t.0 t.1.1.1.1.1.0 narrow (w.closed p s n e).fits)
    (row-shown a m u p f h (row_of s) (operands_in s) (statement-row_operands s) (statement-met a p s w n e) t.1.1.0 t.1.1.1.0 t.1.1.1.1.0))

line-tells : (a : Item) (m : WidthMap) (u : ℕ → ℕ) (xs : List Operand) → HasShape a → ShowsNodes a m u → ((x : ℕ) → 0 < u x) → AllByRecursion (OperandMet a (length a.statements)) xs → NoBlocks a xs → SinglesOf a xs
    → AllByRecursion (TellsEquation m u (length a.statements) Condition) (flat_map operand_equations (each_with of_root xs))
line-tells a m u xs h f above met plain single = tells-line m u (length a.statements) xs f.root (above (2 * length a.statements)) (single-operands a m u (length a.statements) xs f h met plain single)

pub place-tells : (a : Item) (m : WidthMap) (u : ℕ → ℕ) (l : FlawLocation) → WellFormed a → HasShape a → ShowsNodes a m u → ((x : ℕ) → 0 < u x) → IsPlace a l → ¬ IsNarrowPair a l
    → AllByRecursion (TellsEquation m u (place_count a l) (place_row a l)) (equations_at a l)
place-tells a m u (Statement p) w h f above n wide = statement-tells a m u p (statement_at a.statements p) w h f above n (well_formed_stands a w p n) wide
place-tells a m u Infer w h f above n wide = line-tells a m u (line_operands Infer a.ending) h f above (infer-met a w) (h Infer n).1.1.0 (h Infer n).1.1.1.0
place-tells a m u Result w h f above n wide = line-tells a m u (line_operands Result a.ending) h f above (result-met a w) (h Result n).1.1.0 (h Result n).1.1.1.0
place-tells a m u Cand w h f above n wide = line-tells a m u (line_operands Cand a.ending) h f above (cand-met a w) (h Cand n).1.1.0 (h Cand n).1.1.1.0

-- equations that hold are tied, and equations that are tied hold
pub all-tied : (m : WidthMap) (u : ℕ → ℕ) (c : ℕ) (r : Row) (es : List Equation) → AllByRecursion (FollowsEquation m u c r) es → AllByRecursion (Holds m) es → AreTied u (flat_map (ties_of c r) es)
all-tied m u c r [] f h = tt
all-tied m u c r (e ∷ es) f h = All-both (IsTied u) (ties_of c r e) (flat_map (ties_of c r) es) (follows-tied m u c r e f.0 h.0) (all-tied m u c r es f.1 h.1)

pub all-hold : (m : WidthMap) (u : ℕ → ℕ) (c : ℕ) (r : Row) (es : List Equation) → AllByRecursion (TellsEquation m u c r) es → AreTied u (flat_map (ties_of c r) es) → AllByRecursion (Holds m) es
all-hold m u c r [] f h = tt
all-hold m u c r (e ∷ es) f h = (f.0 (All-first (IsTied u) (ties_of c r e) (flat_map (ties_of c r) es) h), all-hold m u c r es f.1 (All-second (IsTied u) (ties_of c r e) (flat_map (ties_of c r) es) h))

-- what solves the equations of a place solves its ties, and back
pub place-tied : (a : Item) (m : WidthMap) (u : ℕ → ℕ) (l : FlawLocation) → WellFormed a → HasShape a → FollowsMap a m u → IsPlace a l → SolvesAt a m l → AreTied u (ties_at a l)
place-tied a m u l w h f n s = all-tied m u (place_count a l) (place_row a l) (equations_at a l) (place-follows a m u l w h f n) s

pub place-solved : (a : Item) (m : WidthMap) (u : ℕ → ℕ) (l : FlawLocation) → WellFormed a → HasShape a → ShowsNodes a m u → ((x : ℕ) → 0 < u x) → IsPlace a l → ¬ IsNarrowPair a l → AreTied u (ties_at a l) → SolvesAt a m l
place-solved a m u l w h f above n wide t = all-hold m u (place_count a l) (place_row a l) (equations_at a l) (place-tells a m u l w h f above n wide) t
