use Rattle.std.proofs.Common.{refl, ◌∙◌}
use Rattle.std.proofs.KnownBytes.{Appends-nil, Appends-trans}
use Rattle.std.proofs.lemmas.Grind.{flat_map-append}
use Rattle.souper_typing.proofs.Holding.{held_none}
use Rattle.souper_watched.specs.Watching.{watched_inner}
use Rattle.souper_typing.proofs.Kept.{WroteRecords, KnownRecords, records_kept, known_records}
use Rattle.souper_typing.proofs.Ends.{typing_ends}
use Rattle.souper_typing.proofs.run.typed_run.Goals as goal

pub write_typed-parts-requires-clause-none : goal.write_typed-parts-requires-clause-none
write_typed-parts-requires-clause-none g c = held_none _ _ _ refl refl (refl, rw c.new-sink.ensures.inner c.new-records.ensures.out) c.new-sink.ensures.flaws c.new-sink.ensures.any

pub write_typed-parts-requires-clause-begins : goal.write_typed-parts-requires-clause-begins
write_typed-parts-requires-clause-begins g c = λ s x. (refl, Appends-nil x)

pub write_typed-parts-requires-clause-joins : goal.write_typed-parts-requires-clause-joins
write_typed-parts-requires-clause-joins g c = λ p q s x y z os qs a b. (b.0 ∙ a.0, rw (flat_map-append, flat_map-append) (Appends-trans _ _ _ _ _ a.1 (rw a.0 at b.1)))

pub returns : goal.returns
returns g c =
    let written = rw (c.new-sink.ensures.form, c.new-sink.ensures.inner, c.new-records.ensures.layout) at c.write_typed-parts.ensures.returned in
    let l = c.args.layout.layout in
    let x = g.W.Write.contents (watched_inner c.args.out.now) in
    let y = g.W.Write.contents (watched_inner c.write_typed-parts.new.out) in
    let z = g.W.Write.contents (watched_inner c.end_parts.new.out) in
    let s = c.write_typed-parts.new.sink.inner in
    typing_ends g.W.Write.contents g.E.Write.contents c.args.out.now c.write_typed-parts.new.out c.end_parts.new.out c.end_parts.ensures.out_stays c.args.err.now c.write_typed-parts.new.err c.end_parts.new.err c.end_parts.ensures.stays
    _ _ _ (WroteRecords l x y s) _ (KnownRecords l x y) _ (records_kept l x y z s) (known_records l x y z) c.write_typed-parts.result c.end_parts.result written c.end_parts.ensures.end
