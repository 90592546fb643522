-- Two maps that solve all places agree where the widths are told.
use Rattle.std.proofs.Common.{◌≡◌, ◌≢◌, ℕ, ◌+◌, ◌-◌, ◌*◌, ◌<◌, List, ◌++◌, length, get_or, Option, Some, sym, subst, ◌∙◌, arith}
use Rattle.std.specs.Prelude.{flat_map, slice_get}
use Rattle.std.specs.List.{AllByRecursion}
use Rattle.souper_graph.specs.declared.ast.flaws.FlawLocation.{FlawLocation}
use Rattle.souper_graph.specs.declared.ast.flaws.FlawLocation.TheVariants.{Statement, Infer, Result, Cand}
use Rattle.souper_graph.specs.Values.{PlainStatement, Item}
use Rattle.souper_graph.specs.WellFormed.{WellFormed}
use Rattle.souper_graph.proofs.Judging.Needed.{statement_at, well_formed_inside, well_formed_stands}
use Rattle.souper_graph.proofs.Judging.Closed.{All-first, All-second}
use Rattle.souper_widths.specs.declared.rows.Row.{Row}
use Rattle.souper_widths.specs.declared.rows.Row.TheVariants.{Input, Block, Phi, Same, Bit, Resized, Select, Pair, Number as number_row, Overflow, BadPart, Condition}
use Rattle.souper_widths.specs.Maps.{WidthMap, result_width, operand_width, AgreeAt}
use Rattle.souper_widths.specs.Equations.{Holds, result_of, type_equations, operand_equations}
use Rattle.souper_widths.specs.Table.{row_of, operands_in, written_type, row_equations, row_operands, statement_equations}
use Rattle.souper_widths.specs.Places.{IsPlace, SolvesAt}
use Rattle.souper_widths.specs.Shape.{HasShape}
use Rattle.souper_widths.specs.Forest.{TellsWidths}
use Rattle.souper_widths.specs.Ties.{result_more, operands_more}
use Rattle.souper_widths.specs.Nodes.{row_at, optional_row, nodes_of, ClassesOf}
use Rattle.souper_widths.specs.Told.{ShowsResult, ShowsOperands, IsTold}
use Rattle.souper_widths.proofs.NodeWidths.{follows-map}
use Rattle.souper_widths.proofs.FirstConflicts.{solves-classes}

abbrev pub SolvesAll : Item → WidthMap → Type 0
SolvesAll a m = (k : FlawLocation) → IsPlace a k → SolvesAt a m k

result-cases : (m n : WidthMap) (p : ℕ) (r : Row) → AllByRecursion (Holds m) (row_equations p r) → AllByRecursion (Holds n) (row_equations p r)
    → (ShowsResult r → result_width m p ≡ result_width n p) → result_width m p ≡ result_width n p
result-cases m n p Input g h e = e tt
result-cases m n p Block g h e = g.0 ∙ sym h.0
result-cases m n p Phi g h e = e tt
result-cases m n p Same g h e = e tt
result-cases m n p Bit g h e = e tt
result-cases m n p Resized g h e = e tt
result-cases m n p Select g h e = e tt
result-cases m n p Pair g h e = e tt
result-cases m n p number_row g h e = e tt
result-cases m n p Overflow g h e = e tt
result-cases m n p BadPart g h e = g.0 ∙ sym h.0
result-cases m n p Condition g h e = g.0 ∙ sym h.0

operand-cases : (m n : WidthMap) (p : ℕ) (r : Row) → AllByRecursion (Holds m) (row_equations p r) → AllByRecursion (Holds n) (row_equations p r)
    → (ShowsOperands r → operand_width m p ≡ operand_width n p) → operand_width m p ≡ operand_width n p
operand-cases m n p Input g h e = g.1.0 ∙ sym h.1.0
operand-cases m n p Block g h e = g.1.0 ∙ sym h.1.0
operand-cases m n p Phi g h e = e tt
operand-cases m n p Same g h e = e tt
operand-cases m n p Bit g h e = e tt
operand-cases m n p Resized g h e = e tt
operand-cases m n p Select g h e = e tt
operand-cases m n p Pair g h e = e tt
operand-cases m n p number_row g h e = e tt
operand-cases m n p Overflow g h e = e tt
operand-cases m n p BadPart g h e = g.1.0 ∙ sym h.1.0
operand-cases m n p Condition g h e = e tt

-- the row's equations of a needed statement
row-solved : (m : WidthMap) (p : ℕ) (s : PlainStatement) (o : Option PlainStatement) → o ≡ Some s → AllByRecursion (Holds m) (statement_equations p o) → AllByRecursion (Holds m) (row_equations p (optional_row o))
row-solved m p s o e h = subst (λ (z : Option PlainStatement). AllByRecursion (Holds m) (row_equations p (optional_row z))) (sym e)
    (All-first (Holds m) (row_equations p (row_of s)) (flat_map operand_equations (row_operands p (row_of s) (operands_in s)))
    (All-second (Holds m) (type_equations (written_type s) (result_of p)) (row_equations p (row_of s) ++ flat_map operand_equations (row_operands p (row_of s) (operands_in s)))
    (subst (λ (z : Option PlainStatement). AllByRecursion (Holds m) (statement_equations p z)) e h)))

same-less : (x y k w : ℕ) → x - k ≡ w → y - k ≡ w → w ≢ 0 → x ≡ y
same-less x y k w e f ne = omega (arith, e, f, ne)

-- a node that is told has its width in each solution
pub node-told : (a : Item) (ps ns ws : List ℕ) (m : WidthMap) → WellFormed a → HasShape a → ClassesOf a (λ k. Unit {0}) ps ns → TellsWidths ps ns ws → SolvesAll a m → (i : ℕ) → get_or ws i 0 ≢ 0 → nodes_of a m i ≡ get_or ws i 0
node-told a ps ns ws m w h c t s i ne = t.known (nodes_of a m) (solves-classes a (λ k. Unit {0}) ps ns m w h c (λ k d p. s k p)) i ne

root-agrees : (a : Item) (ps ns ws : List ℕ) (m n : WidthMap) → WellFormed a → HasShape a → ClassesOf a (λ k. Unit {0}) ps ns → TellsWidths ps ns ws → SolvesAll a m → SolvesAll a n → get_or ws (2 * length a.statements) 0 ≢ 0 → m.root ≡ n.root
root-agrees a ps ns ws m n w h c t sm sn told =
    sym (follows-map a m).root ∙ node-told a ps ns ws m w h c t sm (2 * length a.statements) told ∙ sym (node-told a ps ns ws n w h c t sn (2 * length a.statements) told) ∙ (follows-map a n).root

pub told-agree : (a : Item) (ps ns ws : List ℕ) (m n : WidthMap) (l : FlawLocation) → WellFormed a → HasShape a → ClassesOf a (λ k. Unit {0}) ps ns → TellsWidths ps ns ws → SolvesAll a m → SolvesAll a n → IsPlace a l → IsTold a ws l → AgreeAt m n l
told-agree a ps ns ws m n (Statement p) w h c t sm sn needed told = (
  result-cases m n p (row_at a.statements p) mine other (λ q. same-less (result_width m p) (result_width n p) (result_more (row_at a.statements p)) (get_or ws (2 * p) 0)
      (sym ((follows-map a m).results p within) ∙ node-told a ps ns ws m w h c t sm (2 * p) (told.0 q)) (sym ((follows-map a n).results p within) ∙ node-told a ps ns ws n w h c t sn (2 * p) (told.0 q)) (told.0 q)),
  operand-cases m n p (row_at a.statements p) mine other (λ q. same-less (operand_width m p) (operand_width n p) (operands_more (row_at a.statements p)) (get_or ws (2 * p + 1) 0)
      (sym ((follows-map a m).operands p within) ∙ node-told a ps ns ws m w h c t sm (2 * p + 1) (told.1 q)) (sym ((follows-map a n).operands p within) ∙ node-told a ps ns ws n w h c t sn (2 * p + 1) (told.1 q)) (told.1 q)),
)
  where
    within : p < length a.statements
    within = well_formed_inside a w p needed

    mine : AllByRecursion (Holds m) (row_equations p (row_at a.statements p))
    mine = row-solved m p (statement_at a.statements p) (slice_get a.statements p) (well_formed_stands a w p needed) (sm (Statement p) needed)

    other : AllByRecursion (Holds n) (row_equations p (row_at a.statements p))
    other = row-solved n p (statement_at a.statements p) (slice_get a.statements p) (well_formed_stands a w p needed) (sn (Statement p) needed)
told-agree a ps ns ws m n Infer w h c t sm sn place told = root-agrees a ps ns ws m n w h c t sm sn told
told-agree a ps ns ws m n Result w h c t sm sn place told = root-agrees a ps ns ws m n w h c t sm sn told
told-agree a ps ns ws m n Cand w h c t sm sn place told = root-agrees a ps ns ws m n w h c t sm sn told
