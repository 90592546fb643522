use Rattle.souper_stream.proofs.Reached.{Passing}
use Rattle.souper_stream.proofs.read.pass_on.Given as goal

abbrev pub invariant-loop-item : goal.invariant-loop-item
invariant-loop-item g l = Passing g.T.Item.view g.S.Sink.holds l.fn.pending.items.items l.item-iterator.rest.items l.fn.sink l.sink
