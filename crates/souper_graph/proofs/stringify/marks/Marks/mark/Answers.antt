use Rattle.std.proofs.Common.{sym, arith}
use Rattle.souper_graph.proofs.Order.Marks.{word_there, mark_set}
use Rattle.souper_graph.proofs.stringify.marks.Marks.mark.Goals as goal

pub index_mut-requires : goal.index_mut-requires
index_mut-requires c =
    let there = word_there _ c.self.inside.words.items c.self.inside.len c.args.index (sym c.self.view_is) c.self.invariant c.requires in
    let len = c.self.inside.words.ok in
    omega arith

pub returns : goal.returns
returns c = mark_set _ c.self.inside.words.items c.self.inside.len c.args.index c.index_mut.result.now (sym c.self.view_is) c.self.invariant c.requires c.index_mut.ensures.value
