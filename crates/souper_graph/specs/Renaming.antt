-- Definitions. Items without their names, and items that are named by their printed order.
use Rattle.std.specs.Prelude.{◌≡◌, ℕ, suc, List, [], ◌∷◌, ◌++◌, map, length, codes, decimal, if◌then◌else◌, nat_lt, get_or}
use Rattle.souper_graph.specs.Values.{PlainStatement, assigned, condition, block_condition, Item}
use Rattle.souper_graph.specs.Uses.{UsesBelow}
use Rattle.souper_graph.specs.Order.{printed_order}
use Rattle.souper_graph.specs.PrintOrder.{IsPrintOrder}
use Rattle.souper_graph.specs.WellFormed.{WellFormed}
use Rattle.souper_graph.specs.Sameness.{SameGraph, place}

-- an assignment gets the name; a path condition has none
abbrev pub with_name : List ℕ → PlainStatement → PlainStatement
with_name n (assigned a) = assigned (record a { name = n })
with_name n (condition p) = condition p
with_name n (block_condition p) = block_condition p

-- the item with an empty name in place of each name
abbrev pub nameless : Item → Item
nameless a = record { statements = map (with_name []) a.statements; ending = a.ending }

-- a one-to-one map between the needed statements keeps uses, roots, the order of path conditions, and contents but for
-- names
abbrev pub SameUpToNames : Item → Item → Type 0
SameUpToNames a b = SameGraph (nameless a) (nameless b)

-- `%0`, `%1`, and so on
abbrev pub name_of_index : ℕ → List ℕ
name_of_index k = codes "%" ++ decimal k

-- the name at an index of a list, empty past its end
abbrev pub name_in : List (List ℕ) → ℕ → List ℕ
name_in names k = get_or names k []

-- the statement at position i, with the name of its index if the list has the position; `name` says which name an index has
abbrev pub named_at : (ℕ → List ℕ) → List ℕ → ℕ → PlainStatement → PlainStatement
named_at name ids i s = if nat_lt (place ids i) (length ids) then with_name (name (place ids i)) s else s

-- each of these statements, of which the first is at position i
abbrev pub named_from : (ℕ → List ℕ) → List ℕ → ℕ → List PlainStatement → List PlainStatement
named_from name ids i [] = []
named_from name ids i (s ∷ ss) = named_at name ids i s ∷ named_from name ids (suc i) ss

-- each statement of the list has the name of its index there; statements keep their positions, and others their names
abbrev pub named_by : (ℕ → List ℕ) → List ℕ → Item → Item
named_by name ids a = record { statements = named_from name ids 0 a.statements; ending = a.ending }

-- the needed statements are named by their indices in the printed order, in which path conditions count too
abbrev pub renamed : Item → Item
renamed a = named_by name_of_index (printed_order a) a

-- the item with other statements
abbrev pub with_statements : Item → List PlainStatement → Item
with_statements a ss = record { statements = ss; ending = a.ending }

-- b is a with names by the order that `print_order` returns
pub record IsRenamed (a b : Item) : Type 0 where
  pub ids : List ℕ
  pub lead : ℕ
  pub turns : ℕ
  pub ordered : IsPrintOrder a ids lead turns
  pub named : b ≡ named_by name_of_index ids a
  pub by_printed_order : UsesBelow a → b ≡ renamed a
  pub well_formed : WellFormed a → WellFormed b
