use Rattle.std.proofs.Common.{refl, ◌∙◌}
use Rattle.std.proofs.KnownBytes.{Appends-trans}
use Rattle.std.proofs.lemmas.Grind.{flat_map-append}
use Rattle.souper_records.proofs.Outcomes.{items_more}
use Rattle.souper_records.proofs.each.RecordsPartSink.write_part.Goals as goal

pub returns-clause-written : goal.returns-clause-written
returns-clause-written g c = λ first start os before o wrote idle taken line text refusal.
    (taken.0 ∙ wrote.0, rw (items_more, flat_map-append) (Appends-trans _ _ _ _ _ wrote.1 (rw (taken.1, wrote.0) at c.in_ok-write_text.ensures.written)))

pub returns-clause-none : goal.returns-clause-none
returns-clause-none g c = (refl, c.clear.ensures.bytes)
