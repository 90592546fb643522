use Rattle.std.proofs.KnownBytes.{Appends-kept}
use Rattle.souper_records.proofs.Outcomes.{run_ends}
use Rattle.souper_records.proofs.rows.rows_run.Goals as goal

pub returns : goal.returns
returns g c = run_ends g.W.Write.contents g.E.Write.contents c.args.out.now c.write_rows-parts.new.out c.end_parts.new.out c.end_parts.ensures.out_stays c.args.err.now c.write_rows-parts.new.err c.end_parts.new.err c.end_parts.ensures.stays
    _ _ _ _ _ _ (λ kept os w. ((w.0.0, w.0.1, Appends-kept _ _ _ _ w.0.2 kept), w.1)) (λ kept os w. ((w.0.0, w.0.1, Appends-kept _ _ _ _ w.0.2 kept), w.1)) c.write_rows-parts.result c.end_parts.result c.write_rows-parts.ensures.returned c.end_parts.ensures.end
