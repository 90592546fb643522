use Rattle.std.proofs.Common.{rules, ◌≡◌, [], ◌∷◌, ◌++◌, map}
use Rattle.std.specs.String.{string_bytes}
use Rattle.souper_graph.specs.View.{view_left_hand_side}
use Rattle.souper_graph.specs.Syntax.Spelling.{left_hand_side}
use Rattle.examples_using.proofs.RoundTrips.{composed}
use Rattle.examples_using.proofs.round_trip.print_and_read.Goals as goal

pub returns : goal.returns
returns c =
    let source : c.deref.result.now ≡ string_bytes c.in-Ok.text ++ 10 ∷ [] = search rules in
    composed (λ items. map view_left_hand_side items.items) left_hand_side (view_left_hand_side c.args.item.now) (string_bytes c.in-Ok.text) c.deref.result.now c.parse_left_hand_sides_str.result
    c.law_of_items.ensures source (c.in-Ok.ensures.printed.reads_back c.requires) c.parse_left_hand_sides_str.ensures.spelled
