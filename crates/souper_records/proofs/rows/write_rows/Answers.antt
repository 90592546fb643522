use Rattle.std.proofs.Common.{[], refl}
use Rattle.std.proofs.KnownBytes.{Appends-nil}
use Rattle.souper_records.proofs.Outcomes.{result_mapped}
use Rattle.souper_records.proofs.rows.write_rows.Goals as goal

pub write_parts-requires-clause-none : goal.write_parts-requires-clause-none
write_parts-requires-clause-none g c = (refl, rw c.new-sink.ensures.rows tt)

pub write_parts-requires-clause-started : goal.write_parts-requires-clause-started
write_parts-requires-clause-started g c = (refl, [], refl, Appends-nil _)

pub returns-clause-returned : goal.returns-clause-returned
returns-clause-returned g c =
    let asked = c.with_starts-source.ensures.asked in
    result_mapped _ _ _ _ _ _ _ _ c.write_parts.result (λ os w. ((w.0.1, w.0.2, w.0.3), w.1 asked)) (λ os w. ((w.1.0.1, w.1.0.2, w.1.0.3), w.1.1 asked)) (rw (c.with_starts-source.ensures.options, c.new-sink.ensures.maker) at c.write_parts.ensures.returned)
