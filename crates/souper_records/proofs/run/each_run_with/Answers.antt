use Rattle.std.proofs.Common.{refl}
use Rattle.std.proofs.KnownBytes.{Appends-nil, Appends-kept}
use Rattle.souper_records.proofs.Outcomes.{run_ends}
use Rattle.souper_records.proofs.run.each_run_with.Goals as goal

pub write_parts-parts-requires-clause-none : goal.write_parts-parts-requires-clause-none
write_parts-parts-requires-clause-none g c = (refl, c.new-records.ensures.out)

pub write_parts-parts-requires-clause-started : goal.write_parts-parts-requires-clause-started
write_parts-parts-requires-clause-started g c = (refl, Appends-nil _)

pub returns : goal.returns
returns g c =
    let written = rw (c.new-source.ensures.options, c.new-records.ensures.layout) at c.write_parts-parts.ensures.returned in
    run_ends g.W.Write.contents g.E.Write.contents c.args.out.now c.write_parts-parts.new.out c.end_parts.new.out c.end_parts.ensures.out_stays c.args.err.now c.write_parts-parts.new.err c.end_parts.new.err c.end_parts.ensures.stays
    _ _ _ _ _ _ (λ kept os w. Appends-kept _ _ _ _ w.0.1 kept) (λ kept os w. Appends-kept _ _ _ _ w.1.0.1 kept) c.write_parts-parts.result c.end_parts.result written c.end_parts.ensures.end
