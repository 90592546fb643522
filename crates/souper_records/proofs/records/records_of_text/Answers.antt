use Rattle.std.proofs.Common.{[], refl, ap, ◌∙◌}
use Rattle.souper_records.specs.declared.layout.Layout.{Layout}
use Rattle.souper_records.specs.Records.{records_of}
use Rattle.souper_records.proofs.records.records_of_text.Goals as goal

pub returns-clause-recorded : goal.returns-clause-recorded
returns-clause-recorded g c =
    let taken = c.in_ok-parse_into.ensures.taken in
    (taken.0, taken.1, (taken.2 c.new-records.result [] (refl, c.new-records.ensures.out)).1 ∙ ap (λ (l : Layout). records_of l taken.0) c.new-records.ensures.layout)
