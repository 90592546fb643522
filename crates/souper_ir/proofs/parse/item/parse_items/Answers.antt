use Rattle.std.proofs.Common.{◌≡◌, List, [], map, sym, ap, subst}
use Rattle.souper_graph.specs.Values.{Item}
use Rattle.souper_graph.specs.Syntax.Spelling.{TextSpells}
use Rattle.souper_ir.proofs.Items.WellFormed.{all_well, text_closed}
use Rattle.souper_ir.proofs.parse.item.parse_items.Goals as goal

pub returns-clause-spelled : goal.returns-clause-spelled
returns-clause-spelled g c =
    let taken = c.in_ok-parse_into.ensures.taken in
    let held : map g.T.Item.view c.parse_into.new.sink.items ≡ taken.0 = taken.2 c.new-items.result [] (ap (map g.T.Item.view) c.new-items.ensures.items) in
    subst (λ (x : List Item). TextSpells g.T.Item.item_type c.args.source.now x) (sym held) taken.1

pub returns-clause-each_closed : goal.returns-clause-each_closed
returns-clause-each_closed g c =
    text_closed g.T.Item.item_type (map g.T.Item.view c.parse_into.new.sink.items) c.args.source.now (returns-clause-spelled g c)

pub returns-clause-well_formed : goal.returns-clause-well_formed
returns-clause-well_formed g c = all_well (map g.T.Item.view c.parse_into.new.sink.items) (returns-clause-each_closed g c)
