use Rattle.std.proofs.Common.{◌≡◌, ◌∷◌, [], map, subst, rules}
use Rattle.souper_graph.specs.View.{view_left_hand_side}
use Rattle.souper_graph.specs.Syntax.Spelling.{TextSpells, left_hand_side}
use Rattle.examples_using.proofs.reading.read_one.Goals as goal

pub returns-in-Some : goal.returns-in-Some
returns-in-Some c =
    let same : map view_left_hand_side c.in_ok-items.items.items ≡ view_left_hand_side c.in-Some.item ∷ [] = search rules in
    subst (TextSpells left_hand_side c.args.source.now) same c.in_ok-items.ensures.spelled
