use Rattle.std.proofs.Common.{map, arith}
use Rattle.souper_graph.specs.View.{view_statement}
use Rattle.souper_graph.specs.PartsView.{view_parts}
use Rattle.souper_graph.proofs.Sameness.Renamed.{ok-renamed}
use Rattle.souper_graph.proofs.ast.parts.Parts.renamed_statements.Goals as goal

pub returns-clause-named : goal.returns-clause-named
returns-clause-named c =
    let order = c.in_ok-order.order in
    ok-renamed (view_parts c.args.self.now) (map view_statement) order.ids.items c.deref.result.now order.lead order.turns c.named_statements.result
    c.in_ok-order.ensures.ordered c.deref.ensures.value (omega (arith, c.deref.ensures.len)) c.named_statements.ensures.named
