-- The parts read so far: their items were passed to the sink.
use Rattle.std.proofs.Common.{◌≡◌, []}
use Rattle.souper_stream.proofs.Reached.{Reached}
use Rattle.souper_stream.proofs.read.read_with.Given as goal

abbrev pub invariant-loop-turn : goal.invariant-loop-turn
invariant-loop-turn g l = record {
  reached : Reached g.T.Item.item_type (g.R.Read.remaining l.fn.reader) (g.R.Read.remaining l.reader) g.S.Sink.holds l.fn.sink l.sink l.parts;
  none : l.pending.items.items ≡ [];
}
