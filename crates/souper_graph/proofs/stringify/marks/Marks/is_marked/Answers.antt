use Rattle.std.proofs.Common.{sym, arith}
use Rattle.souper_graph.proofs.Order.Marks.{word_there, mark_read}
use Rattle.souper_graph.proofs.stringify.marks.Marks.is_marked.Goals as goal

pub index-requires : goal.index-requires
index-requires c =
    let there = word_there _ c.self.inside.words.items c.self.inside.len c.args.index (sym c.self.view_is) c.self.invariant c.requires in
    let len = c.self.inside.words.ok in
    omega arith

pub returns : goal.returns
returns c = mark_read _ c.self.inside.words.items c.self.inside.len c.args.index c.index.result.now (sym c.self.view_is) c.self.invariant c.requires c.index.ensures
