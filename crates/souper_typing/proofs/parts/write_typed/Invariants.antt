-- The parts that were read, their output, and the reports.
use Rattle.std.proofs.Common.{◌≡◌, ◌||◌, Bool, true, false, []}
use Rattle.souper_watched.specs.Streams.{stream}
use Rattle.souper_watched.specs.Watching.{watched_inner, has_failed}
use Rattle.souper_stream.specs.Parts.{keeps_starts}
use Rattle.souper_records.specs.Outcomes.{input_stream}
use Rattle.souper_records.proofs.Outcomes.{Reached}
use Rattle.souper_typing.specs.Widened.{WidenedHolds}
use Rattle.souper_typing.specs.Results.{unsaid, TypesOutcomes}
use Rattle.souper_typing.proofs.parts.write_typed.Given as goal

abbrev pub invariant-loop-turn : goal.invariant-loop-turn
invariant-loop-turn g l = record {
  options : l.source.options ≡ l.fn.options;
  same : keeps_starts l.source.parts ≡ true;
  none : WidenedHolds g.S.Sink.holds l.sink l.sink [];
  form : l.sink.form ≡ l.fn.sink.form;
  recover : l.sink.recover ≡ l.fn.sink.recover;
  reached : (refused : Bool) × (untyped : Bool) × (l.any ≡ (refused || untyped)) × Reached (input_stream g.T.Item.item_type l.fn.options (g.R.Read.remaining l.fn.reader)) (g.R.Read.remaining l.reader) true
      (TypesOutcomes (input_stream g.T.Item.item_type l.fn.options (g.R.Read.remaining l.fn.reader)) l.fn.sink.form (g.S.PartSink.wrote l.fn.options.name.now l.fn.sink.inner (g.W.Write.contents (watched_inner l.fn.out)) l.sink.inner (g.W.Write.contents (watched_inner l.out))) (stream g.E.Write.contents l.fn.err l.err) untyped) unsaid refused l.source.parts;
  quiet : l.fn.options.recover ≡ false → l.any ≡ false;
  stays : has_failed l.fn.err ≡ true → has_failed l.err ≡ true;
}
