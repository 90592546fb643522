use Rattle.std.proofs.Common.{refl}
use Rattle.std.specs.Prelude.{Err, None}
use Rattle.souper_watched.specs.Streams.{stream}
use Rattle.souper_watched.specs.Watching.{has_failed}
use Rattle.souper_records.specs.Outcomes.{input_stream}
use Rattle.souper_records.proofs.Outcomes.{result_mapped, parts_mapped}
use Rattle.souper_typing.proofs.ObjectRows.{none_written, to_objects}
use Rattle.souper_typing.proofs.objects.write_typed_objects.Goals as goal

pub write_parts-requires-clause-none : goal.write_parts-requires-clause-none
write_parts-requires-clause-none g c = (refl, refl, rw c.new.ensures.rows tt)

pub write_parts-requires-clause-started : goal.write_parts-requires-clause-started
write_parts-requires-clause-started g c = none_written _ _ _ refl

pub returns-in-Ok-clause-returned : goal.returns-in-Ok-clause-returned
returns-in-Ok-clause-returned g c =
    let asked = c.with_starts-source.ensures.asked in
    let i = input_stream g.T.Item.item_type c.args.options (g.R.Read.remaining c.args.reader.now) in
    let out = stream g.W.Write.contents c.args.out.now c.write_parts.new.out in
    let returned = rw c.with_starts-source.ensures.options at c.in-Ok.ensures.returned in
    (c.in-Ok.refused, c.write_parts.new.sink.untyped, refl, parts_mapped (λ os w. to_objects c.args.maker i _ _ out os c.new.ensures.maker refl w.0 (w.1 asked)) (λ es h. h) returned)

pub returns-clause-returned : goal.returns-clause-returned
returns-clause-returned g c =
    let asked = c.with_starts-source.ensures.asked in
    let i = input_stream g.T.Item.item_type c.args.options (g.R.Read.remaining c.args.reader.now) in
    let out = stream g.W.Write.contents c.args.out.now c.write_parts.new.out in
    let returned = rw c.with_starts-source.ensures.options at c.in-Err.ensures.returned in
    result_mapped i None (λ os. Unit {0}) (λ os. Unit {0}) _ _ (has_failed c.write_parts.new.out) (stream g.E.Write.contents c.args.err.now c.write_parts.new.err) (Err c.in-Err.stop) (λ os w. w) (λ os w. (w.0.untyped, to_objects c.args.maker i _ _ out os c.new.ensures.maker refl w.1.0 (w.1.1 asked))) returned
