use Rattle.std.proofs.Common.{refl}
use Rattle.std.proofs.KnownBytes.{Appends-kept}
use Rattle.souper_records.proofs.Prelude.{stream}
use Rattle.souper_records.specs.Outcomes.{items_of}
use Rattle.souper_records.proofs.Seeing.{keeps_none, distinct_records}
use Rattle.souper_records.proofs.Outcomes.{run_ends}
use Rattle.souper_records.proofs.run.uniq_run_with.Goals as goal

pub write_parts-parts-requires-clause-started : goal.write_parts-parts-requires-clause-started
write_parts-parts-requires-clause-started g c = (refl, keeps_none g.T.Item.item_type c.new-distinct.result.layout _ c.new-distinct.result.seen)

pub write_parts-parts-requires-clause-none : goal.write_parts-parts-requires-clause-none
write_parts-parts-requires-clause-none g c = (refl, refl, rw c.new-distinct.ensures.texts refl, tt)

pub returns : goal.returns
returns g c = λ earlier had.
    let records = distinct_records g.T.Item.item_type c.args.layout (stream g.W.Write.contents c.args.out.now c.write_parts-parts.new.out) c.args.seen.now in
    let written = rw (c.new-source.ensures.options, c.new-distinct.ensures.layout, c.new-distinct.ensures.seen, c.replace.ensures.value) at c.write_parts-parts.ensures.returned in
    run_ends g.W.Write.contents g.E.Write.contents c.args.out.now c.write_parts-parts.new.out c.end_parts.new.out c.end_parts.ensures.out_stays c.args.err.now c.write_parts-parts.new.err c.end_parts.new.err c.end_parts.ensures.stays
    _ _ _ _ _ _ (λ kept os w. (let d = records c.write_parts-parts.new.sink.seen earlier (items_of os) had w.0.1 in ((d.0.0, d.0.1, Appends-kept _ _ _ _ d.0.2 kept), d.1)))
    (λ kept os w. (let d = (records w.0.seen earlier (items_of os) had w.1.0.1).0 in (d.0, d.1, Appends-kept _ _ _ _ d.2 kept))) c.write_parts-parts.result c.end_parts.result written c.end_parts.ensures.end
