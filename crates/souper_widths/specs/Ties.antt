-- Definitions. The equations as ties of nodes, where a pair counts by the width of its number.
use Rattle.std.specs.Prelude.{◌≡◌, ℕ, ◌+◌, ◌-◌, ◌*◌, ◌<◌, ◌==◌, Bool, false, ◌||◌, List, [], ◌∷◌, ◌++◌, flat_map, Option, Some, None, if◌then◌else◌}
use Rattle.std.specs.List.{AllByRecursion}
use Rattle.souper_graph.specs.declared.ast.operands.«Type».{«Type» as Ty}
use Rattle.souper_graph.specs.declared.ast.operands.Operand.{Operand}
use Rattle.souper_graph.specs.declared.ast.operands.Operand.TheVariants.{Value, Constant}
use Rattle.souper_graph.specs.Values.{PlainStatement}
use Rattle.souper_widths.specs.declared.rows.Row.{Row}
use Rattle.souper_widths.specs.declared.rows.Row.TheVariants.{Input, Block, Pair, Number as number_row, Overflow, BadPart, Condition}
use Rattle.souper_widths.specs.declared.ties.Side.{Side}
use Rattle.souper_widths.specs.declared.ties.Side.TheVariants.{Node, Number}
use Rattle.souper_widths.specs.declared.ties.Tie.{Tie}
use Rattle.souper_widths.specs.Equations.{Width, result_of, operands_at, of_root, bits, one_more, Equation, equal, at_least_one}
use Rattle.souper_widths.specs.Table.{row_of, statement_equations}
use Rattle.souper_widths.specs.Forest.{side_width, AreClasses, Solves, Refuses, IsSide}

-- by how much a result is wider than its node
abbrev pub result_more : Row → ℕ
result_more Pair = 1
result_more r = 0

-- by how much the operands are
abbrev pub operands_more : Row → ℕ
operands_more number_row = 1
operands_more Overflow = 1
operands_more r = 0

abbrev pub more_in : Row → Width → ℕ
more_in r (result_of p) = result_more r
more_in r (operands_at p) = operands_more r
more_in r of_root = 0
more_in r (bits n) = 0
more_in r (one_more x) = 1

-- by how much both sides of an equation are: the right one tells, if it is no number
abbrev pub more_of : Row → Width → Width → ℕ
more_of r x (bits n) = more_in r x
more_of r x y = more_in r y

-- the node of a width among those of count statements, or the number with k bits less
abbrev pub side_of : ℕ → ℕ → Width → Side
side_of count k (result_of p) = Node (2 * p)
side_of count k (operands_at p) = Node (2 * p + 1)
side_of count k of_root = Node (2 * count)
side_of count k (bits n) = Number (n - k)
side_of count k (one_more x) = side_of count k x

abbrev pub is_zero : Side → Bool
is_zero (Node x) = false
is_zero (Number n) = n == 0

-- none if a side is 0
abbrev pub tie_between : Side → Side → ℕ → List Tie
tie_between l r k = if is_zero l || is_zero r then [] else record { left = l; right = r; more = k } ∷ []

abbrev pub ties_of : ℕ → Row → Equation → List Tie
ties_of count r (equal x y) = tie_between (side_of count (more_of r x y) x) (side_of count (more_of r x y) y) (more_of r x y)
ties_of count r (at_least_one x) = []

-- the ties of the equations of a statement at position p
abbrev pub statement_ties : ℕ → PlainStatement → List Tie
statement_ties p s = flat_map (ties_of 0 (row_of s)) (statement_equations p (Some s))

-- both sides have one width
abbrev pub IsTied : (ℕ → ℕ) → Tie → Type 0
IsTied u t = side_width u t.left ≡ side_width u t.right

abbrev pub AreTied : (ℕ → ℕ) → List Tie → Type 0
AreTied u ts = AllByRecursion (IsTied u) ts

-- the tie of a constant's type with a side
abbrev pub type_tie : Option Ty → Side → ℕ → List Tie
type_tie None n k = []
type_tie (Some t) n k = tie_between (Number (t.width - k)) n k

-- the tie of an operand with a side
abbrev pub operand_tie : Operand → Side → ℕ → List Tie
operand_tie (Value i) n k = tie_between (Node (2 * i)) n k
operand_tie (Constant c) n k = type_tie c.ty n k

abbrev pub IsOperandBelow : ℕ → Operand → Type 0
IsOperandBelow count (Value i) = i < count
IsOperandBelow count (Constant c) = Unit {0}

-- what solves the new classes is what solves the old ones and the ties
pub record AddsTies (parents numbers parents' numbers' : List ℕ) (ts : List Tie) : Type 0 where
  pub to : (u : ℕ → ℕ) → Solves u parents numbers → AreTied u ts → Solves u parents' numbers'
  pub back : (u : ℕ → ℕ) → Solves u parents' numbers' → Solves u parents numbers
  pub tied : (u : ℕ → ℕ) → Solves u parents' numbers' → AreTied u ts

-- The first tie that fails: classes have those before it, and refuse it. The widths are those of its sides.
pub record Clashes (parents numbers : List ℕ) (ts : List Tie) (left right : ℕ) : Type 0 where
  pub front : List Tie
  pub failing : Tie
  pub back : List Tie
  pub here : ts ≡ front ++ failing ∷ back
  pub parents' : List ℕ
  pub numbers' : List ℕ
  pub classes : AreClasses parents' numbers'
  pub added : AddsTies parents numbers parents' numbers' front
  pub x : ℕ
  pub y : ℕ
  pub refused : Refuses parents' numbers' failing.left failing.right x y
  pub left_is : left ≡ x + failing.more
  pub right_is : right ≡ y + failing.more

abbrev pub HasSides : ℕ → Tie → Type 0
HasSides count t = IsSide count t.left × IsSide count t.right

-- the width of a result whose node has width x
abbrev pub shown_result : Row → ℕ → ℕ
shown_result Block x = 0
shown_result BadPart x = 0
shown_result Condition x = 0
shown_result Pair x = x + 1
shown_result r x = x

-- the width of operands whose node has it
abbrev pub shown_operands : Row → ℕ → ℕ
shown_operands Input x = 0
shown_operands Block x = 0
shown_operands BadPart x = 0
shown_operands number_row x = x + 1
shown_operands Overflow x = x + 1
shown_operands r x = x
