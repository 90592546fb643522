-- Definitions. Widths of nodes by a map, a map by widths of nodes, and what the proofs ask of operands.
use Rattle.std.specs.Prelude.{◌≡◌, ◌≢◌, ℕ, zero, suc, ◌+◌, ◌-◌, ◌*◌, ◌<◌, ◌==◌, Bool, false, List, [], ◌∷◌, ◌++◌, length, flat_map, get_or, Option, Some, None, if◌then◌else◌, slice_get, ◌↔◌, true}
use Rattle.souper_graph.specs.declared.ast.flaws.FlawLocation.{FlawLocation}
use Rattle.souper_graph.specs.declared.ast.flaws.FlawLocation.TheVariants.{Statement}
use Rattle.souper_graph.specs.declared.ast.operands.Operand.{Operand}
use Rattle.souper_graph.specs.declared.ast.operands.Operand.TheVariants.{Value, Constant}
use Rattle.souper_graph.specs.Values.{PlainStatement, Item}
use Rattle.souper_graph.specs.Uses.{Has, Use, value_use, position_of, NeededIn}
use Rattle.souper_graph.specs.WellFormed.{FitsOptionalType, IsMet}
use Rattle.souper_widths.specs.declared.rows.Row.{Row}
use Rattle.souper_widths.specs.declared.rows.Row.TheVariants.{Input, Block, Phi, Pair, BadPart, Condition}
use Rattle.souper_widths.specs.Maps.{WidthMap, result_width, operand_width}
use Rattle.souper_widths.specs.declared.ties.Tie.{Tie}
use Rattle.souper_widths.specs.Table.{row_of}
use Rattle.souper_widths.specs.Forest.{Solves}
use Rattle.souper_widths.specs.Ties.{result_more, operands_more, ties_of, AreTied, shown_result, shown_operands}
use Rattle.souper_widths.specs.Places.{IsPlace, equations_at}
use Rattle.souper_widths.specs.Flaws.{IsNarrowPair}

abbrev pub optional_row : Option PlainStatement → Row
optional_row None = BadPart
optional_row (Some s) = row_of s

-- the row of the statement at a position
abbrev pub row_at : List PlainStatement → ℕ → Row
row_at ss p = optional_row (slice_get ss p)

-- each node has the width of the map, but for what a pair is wider
pub record FollowsMap (a : Item) (m : WidthMap) (u : ℕ → ℕ) : Type 0 where
  pub results : (p : ℕ) → p < length a.statements → u (2 * p) ≡ result_width m p - result_more (row_at a.statements p)
  pub operands : (p : ℕ) → p < length a.statements → u (2 * p + 1) ≡ operand_width m p - operands_more (row_at a.statements p)
  pub root : u (2 * length a.statements) ≡ m.root

-- the map has the widths of the nodes of needed statements, as their rows show them
pub record ShowsNodes (a : Item) (m : WidthMap) (u : ℕ → ℕ) : Type 0 where
  pub results : (p : ℕ) → NeededIn a p → result_width m p ≡ shown_result (row_at a.statements p) (u (2 * p))
  pub operands : (p : ℕ) → NeededIn a p → operand_width m p ≡ shown_operands (row_at a.statements p) (u (2 * p + 1))
  pub root : m.root ≡ u (2 * length a.statements)

-- a use of a needed statement before p
abbrev pub UseMet : Item → ℕ → Use → Type 0
UseMet a p u = (position_of u < p) × IsMet a.statements u × NeededIn a (position_of u)

-- an operand that is a needed assignment before p, or a constant whose type is above 0
abbrev pub OperandMet : Item → ℕ → Operand → Type 0
OperandMet a p (Value i) = UseMet a p (value_use i)
OperandMet a p (Constant c) = FitsOptionalType c.ty

-- the rows that instructions have: no operands of an input, some of a pair
abbrev pub IsOwnRow : Row → List Operand → Type 0
IsOwnRow Input xs = xs ≡ []
IsOwnRow Block xs = ⊥
IsOwnRow Phi xs = ⊥
IsOwnRow Pair xs = xs ≢ []
IsOwnRow Condition xs = ⊥
IsOwnRow r xs = Unit {0}

-- inputs and blocks have no operands
abbrev pub HasRowOperands : Row → List Operand → Type 0
HasRowOperands Input xs = xs ≡ []
HasRowOperands Block xs = xs ≡ []
HasRowOperands Pair xs = xs ≢ []
HasRowOperands r xs = Unit {0}

-- the first n values of a function
abbrev pub listed : (ℕ → ℕ) → ℕ → List ℕ
listed f zero = []
listed f (suc n) = listed f n ++ f n ∷ []

-- the width of the result at position p, if it is marked
abbrev pub shown_at : List PlainStatement → List Bool → (ℕ → ℕ) → ℕ → ℕ
shown_at ss marks u p = if get_or marks p false then shown_result (row_at ss p) (u (2 * p)) else 0

abbrev pub operands_shown_at : List PlainStatement → List Bool → (ℕ → ℕ) → ℕ → ℕ
operands_shown_at ss marks u p = if get_or marks p false then shown_operands (row_at ss p) (u (2 * p + 1)) else 0

-- the map of the widths of nodes, at the marked positions
abbrev pub map_of : List PlainStatement → List Bool → (ℕ → ℕ) → WidthMap
map_of ss marks u = record {
  results = listed (shown_at ss marks u) (length ss);
  operands = listed (operands_shown_at ss marks u) (length ss);
  root = u (2 * length ss);
}

-- f at even numbers, g at odd ones
abbrev pub by_turns : (ℕ → ℕ) → (ℕ → ℕ) → ℕ → ℕ
by_turns f g zero = f 0
by_turns f g (suc zero) = g 0
by_turns f g (suc (suc n)) = by_turns (λ k. f (suc k)) (λ k. g (suc k)) n

-- the widths of nodes of a map
abbrev pub result_node : Item → WidthMap → ℕ → ℕ
result_node a m p = if p == length a.statements then m.root else (result_width m p - result_more (row_at a.statements p))

abbrev pub operands_node : Item → WidthMap → ℕ → ℕ
operands_node a m p = operand_width m p - operands_more (row_at a.statements p)

abbrev pub nodes_of : Item → WidthMap → ℕ → ℕ
nodes_of a m = by_turns (result_node a m) (operands_node a m)

-- the row that a location's equations are tied by, and the number of statements, if the root is among its nodes
abbrev pub place_row : Item → FlawLocation → Row
place_row a (Statement p) = row_at a.statements p
place_row a l = Condition

abbrev pub place_count : Item → FlawLocation → ℕ
place_count a (Statement p) = 0
place_count a l = length a.statements

-- the ties of the equations at a location
abbrev pub ties_at : Item → FlawLocation → List Tie
ties_at a l = flat_map (ties_of (place_count a l) (place_row a l)) (equations_at a l)

-- What solves the classes is what ties all places of which Done holds. No pair among them has one bit.
pub record ClassesOf (a : Item) (Done : FlawLocation → Type 0) (parents numbers : List ℕ) : Type 0 where
  pub to : (u : ℕ → ℕ) → ((k : FlawLocation) → Done k → IsPlace a k → AreTied u (ties_at a k)) → Solves u parents numbers
  pub back : (u : ℕ → ℕ) → Solves u parents numbers → (k : FlawLocation) → Done k → IsPlace a k → AreTied u (ties_at a k)
  pub wide : (k : FlawLocation) → Done k → IsPlace a k → ¬ IsNarrowPair a k

-- the marks are on these positions alone
pub record HaveMarks (marks : List Bool) (ids : List ℕ) (count : ℕ) : Type 0 where
  pub size : length marks ≡ count
  pub exact : (i : ℕ) → (get_or marks i false ≡ true) ↔ Has ids i

-- the marks are on the needed statements alone
pub record MarkNeeded (a : Item) (marks : List Bool) : Type 0 where
  pub size : length marks ≡ length a.statements
  pub exact : (p : ℕ) → (get_or marks p false ≡ true) ↔ NeededIn a p
