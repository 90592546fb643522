-- Definitions. Items with other statements, and what stays.
use Rattle.std.specs.Prelude.{◌≡◌, List, map, refl}
use Rattle.souper_graph.specs.declared.ast.statements.Statement.{Statement}
use Rattle.souper_graph.specs.declared.ast.items.LeftHandSide.{LeftHandSide}
use Rattle.souper_graph.specs.declared.ast.items.RightHandSide.{RightHandSide}
use Rattle.souper_graph.specs.declared.ast.items.Replacement.{Replacement}
use Rattle.souper_graph.specs.declared.ast.items.Replacement.TheVariants.{LhsRhs, Cand}
use Rattle.souper_graph.specs.View.{view_statement, view_replacement}
use Rattle.souper_graph.specs.Renaming.{with_statements}

abbrev pub left_hand_side_of : LeftHandSide → List Statement → LeftHandSide
left_hand_side_of l ss = record l { statements = ss }

abbrev pub right_hand_side_of : RightHandSide → List Statement → RightHandSide
right_hand_side_of r ss = record r { statements = ss }

abbrev pub replacement_of : Replacement → List Statement → Replacement
replacement_of (LhsRhs old l r) ss = LhsRhs ss l r
replacement_of (Cand old c) ss = Cand ss c

-- the last lines stay
pub replacement_puts : (r : Replacement) (ss : List Statement) → view_replacement (replacement_of r ss) ≡ with_statements (view_replacement r) (map view_statement ss)
replacement_puts (LhsRhs old l r) ss = refl
replacement_puts (Cand old c) ss = refl
