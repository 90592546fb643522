use Rattle.std.proofs.Common.{◌≡◌, List, map, sym, subst, OnOk, arith}
use Rattle.souper_graph.specs.Values.{PlainStatement, Item as PlainItem}
use Rattle.souper_graph.specs.View.{view_statement}
use Rattle.souper_graph.specs.Order.{Distinct}
use Rattle.souper_graph.specs.Renaming.{name_of_index, named_from, IsRenamed}
use Rattle.souper_graph.proofs.Sameness.Renamed.{ok-renamed}
use Rattle.souper_graph.proofs.ast.item.Item.rename.Goals as goal

pub returns-clause-named : goal.returns-clause-named
returns-clause-named g c =
    let order = c.in_ok-order.order in
    let item = g.Self.Item.view c.args.self.now in
    let ids = c.deref.result.now in
    let new = c.write_names.new.statements in
    let r = c.write_names.result in
    let named = subst (λ (ss : List PlainStatement). Distinct ids → OnOk r (map view_statement new ≡ named_from name_of_index ids 0 ss)) c.statements_mut.ensures.value c.write_names.ensures.named in
    let written = ok-renamed item (λ _. map view_statement new) order.ids.items ids order.lead order.turns r c.in_ok-order.ensures.ordered c.deref.ensures.value (omega (arith, c.deref.ensures.len)) named in
    subst (λ (b : PlainItem). OnOk r (IsRenamed item b)) (sym (g.met.Self.Item.puts c.args.self.now new)) written
