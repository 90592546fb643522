use Rattle.std.proofs.Common.{refl}
use Rattle.souper_graph.specs.View.{view_left_hand_side}
use Rattle.souper_graph.specs.Syntax.Spelling.{left_hand_side}
use Rattle.souper_graph.proofs.ast.items.LeftHandSide.to_text.Goals as goal

pub returns-clause-printed : goal.returns-clause-printed
returns-clause-printed c = c.to_text.ensures.printed left_hand_side (view_left_hand_side c.args.self.now) c.parts.ensures refl
