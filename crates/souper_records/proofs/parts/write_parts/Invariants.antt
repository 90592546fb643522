-- The parts that were read, their output, and the reports.
use Rattle.std.proofs.Common.{◌≡◌, true, false, []}
use Rattle.souper_records.proofs.Prelude.{keeps_starts, stream, watched_inner, has_failed}
use Rattle.souper_records.specs.Outcomes.{input_stream}
use Rattle.souper_records.proofs.Outcomes.{Reached}
use Rattle.souper_records.proofs.parts.write_parts.Given as goal

abbrev pub invariant-loop-turn : goal.invariant-loop-turn
invariant-loop-turn g l = record {
  options : l.source.options ≡ l.fn.source.options;
  same : keeps_starts l.source.parts ≡ keeps_starts l.fn.source.parts;
  none : g.S.Sink.holds l.sink l.sink [];
  reached : Reached (input_stream g.T.Item.item_type l.fn.source.options (g.R.Read.remaining l.fn.reader)) (g.R.Read.remaining l.reader) (keeps_starts l.fn.source.parts)
      (g.S.PartSink.wrote l.fn.source.options.name.now l.fn.sink (g.W.Write.contents (watched_inner l.fn.out)) l.sink (g.W.Write.contents (watched_inner l.out))) (stream g.E.Write.contents l.fn.err l.err) l.any l.source.parts;
  quiet : l.fn.source.options.recover ≡ false → l.any ≡ false;
  stays : has_failed l.fn.err ≡ true → has_failed l.err ≡ true;
}
