use Rattle.std.proofs.Common.{◌+◌, ◌/◌, arith}
use Rattle.souper_graph.proofs.Order.Marks.{marks_none}
use Rattle.souper_graph.proofs.stringify.marks.Marks.none.Goals as goal

pub returns : goal.returns
returns c = marks_none _ (c.args.len / 64 + 1) c.args.len (c.in_ok-words.ensures.items_if_clones_equal (λ y e. e)) (omega arith)
