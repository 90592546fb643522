-- Definitions. A list of items of one kind, as plain data, and when two have pairwise the same graphs.
use Rattle.std.specs.Prelude.{◌≡◌, List, map}
use Rattle.std.specs.List.{AllZip}
use Rattle.souper_graph.specs.Values.{Item}
use Rattle.souper_graph.specs.Sameness.{SameGraph}
use Rattle.souper_graph.specs.View.{view_left_hand_side, view_right_hand_side, view_replacement}
use Rattle.souper_errors.specs.declared.kind.Kind.{Kind}
use Rattle.souper_errors.specs.declared.kind.Kind.TheVariants.{Lhs, Rhs, Rep}
use Rattle.souper_format.specs.declared.items.Items.{Items}
use Rattle.souper_format.specs.declared.items.Items.TheVariants.{Lhs as lhs_items, Rhs as rhs_items, Rep as rep_items}

-- the kind of the items of a list
abbrev pub kind_of_items : Items → Kind
kind_of_items (lhs_items v) = Lhs
kind_of_items (rhs_items v) = Rhs
kind_of_items (rep_items v) = Rep

-- the items of a list
abbrev pub view_items : Items → List Item
view_items (lhs_items v) = map view_left_hand_side v.items
view_items (rhs_items v) = map view_right_hand_side v.items
view_items (rep_items v) = map view_replacement v.items

-- one kind, one length, and each item the same graph as the one at its index
abbrev pub SameItems : Items → Items → Type 0
SameItems a b = (kind_of_items a ≡ kind_of_items b) × AllZip SameGraph (view_items a) (view_items b)
