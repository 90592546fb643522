use Rattle.souper_graph.proofs.Judging.Needed.{well_formed_below}
use Rattle.souper_graph.proofs.Judging.Closed.{fault_of_well_formed}
use Rattle.souper_graph.proofs.ast.item.Item.well_formed_text.Goals as goal

pub returns-in-Ok : goal.returns-in-Ok
returns-in-Ok g c = c.in-Ok.ensures.printed.canonical (well_formed_below (g.Self.Item.view c.args.self.now) c.requires)

pub unreachable-requires : goal.unreachable-requires
unreachable-requires g c = c.in_default.not-OutOfMemory (fault_of_well_formed _ _ c.requires c.in-Err.ensures.refused)
