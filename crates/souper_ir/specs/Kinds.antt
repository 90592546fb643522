-- Definitions. The types of items.
use Rattle.souper_graph.specs.Syntax.Spelling.{ItemType, left_hand_side, right_hand_side, replacement}
use Rattle.souper_errors.specs.declared.kind.Kind.{Kind}
use Rattle.souper_errors.specs.declared.kind.Kind.TheVariants.{Lhs, Rhs, Rep}

-- the type of the items of a kind
abbrev pub item_type_of : Kind → ItemType
item_type_of Lhs = left_hand_side
item_type_of Rhs = right_hand_side
item_type_of Rep = replacement
