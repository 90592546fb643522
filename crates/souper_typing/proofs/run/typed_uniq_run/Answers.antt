use Rattle.std.proofs.Common.{refl, ◌∙◌}
use Rattle.std.proofs.lemmas.Grind.{flat_map-append}
use Rattle.souper_watched.specs.Streams.{stream}
use Rattle.souper_records.specs.Outcomes.{items_of}
use Rattle.souper_records.proofs.Seeing.{keeps_none, keeps_join}
use Rattle.souper_typing.proofs.Holding.{held_none}
use Rattle.souper_watched.specs.Watching.{watched_inner}
use Rattle.souper_typing.proofs.Kept.{WroteDistinct, KnownDistinct, distinct_kept, known_distinct}
use Rattle.souper_typing.proofs.Ends.{typing_ends}
use Rattle.souper_typing.proofs.run.typed_uniq_run.Goals as goal

pub write_typed-parts-requires-clause-none : goal.write_typed-parts-requires-clause-none
write_typed-parts-requires-clause-none g c = held_none _ _ _ refl refl (refl, refl, rw (c.new-sink.ensures.inner, c.new-distinct.ensures.texts) refl, tt) c.new-sink.ensures.flaws c.new-sink.ensures.any

pub write_typed-parts-requires-clause-begins : goal.write_typed-parts-requires-clause-begins
write_typed-parts-requires-clause-begins g c = λ s x. (refl, keeps_none g.T.Item.item_type s.layout x s.seen)

pub write_typed-parts-requires-clause-joins : goal.write_typed-parts-requires-clause-joins
write_typed-parts-requires-clause-joins g c = λ p q s x y z os qs a b. (b.0 ∙ a.0, rw flat_map-append (keeps_join g.T.Item.item_type p.layout x y z p.seen q.seen s.seen (items_of os) (items_of qs) a.1 (rw a.0 at b.1)))

pub returns : goal.returns
returns g c = λ earlier had.
    let k = g.T.Item.item_type in
    let out = stream g.W.Write.contents c.args.out.now c.end_parts.new.out in
    let written = rw (c.new-sink.ensures.form, c.new-sink.ensures.inner, c.new-distinct.ensures.layout, c.new-distinct.ensures.seen, c.replace.ensures.value) at c.write_typed-parts.ensures.returned in
    let l = c.args.layout.layout in
    let x = g.W.Write.contents (watched_inner c.args.out.now) in
    let y = g.W.Write.contents (watched_inner c.write_typed-parts.new.out) in
    let s = c.write_typed-parts.new.sink.inner in
    typing_ends g.W.Write.contents g.E.Write.contents c.args.out.now c.write_typed-parts.new.out c.end_parts.new.out c.end_parts.ensures.out_stays c.args.err.now c.write_typed-parts.new.err c.end_parts.new.err c.end_parts.ensures.stays
    _ _ _ (WroteDistinct k l c.args.seen.now x y s) _ (KnownDistinct k l c.args.seen.now x y) _ (distinct_kept k l c.args.seen.now earlier out y s had) (known_distinct k l c.args.seen.now earlier out y had) c.write_typed-parts.result c.end_parts.result
    written c.end_parts.ensures.end
