use Rattle.std.proofs.Common.{◌≡◌, ℕ, List, [], ◌∷◌, ◌++◌, sym, ap, ◌∙◌}
use Rattle.std.proofs.lemmas.Grind.{flat_map-append}
use Rattle.souper_records.proofs.Prelude.{Line, concat, all_lines}
use Rattle.souper_stream.proofs.Passing.{done_more}
use Rattle.souper_records.specs.declared.layout.Layout.{Layout}
use Rattle.souper_records.specs.Outcomes.{parts_of, items_of}
use Rattle.souper_records.specs.Records.{record_of, records_of}
use Rattle.souper_records.proofs.Outcomes.{parts_more, items_more}
use Rattle.souper_records.proofs.check.CheckedPartSink.write_part.Goals as goal

pub returns-clause-written : goal.returns-clause-written
returns-clause-written g c = λ first start os before o wrote idle taken line text refusal.
    let l : Layout = first.records.layout in
    let done = concat (all_lines (parts_of os)) in
    let made = records_of l (items_of os) in
    let read : concat (all_lines (parts_of (os ++ o ∷ []))) ≡ done ++ c.args.part.text.now =
    ap (λ (ps : List (List Line)). concat (all_lines ps)) (parts_more os o) ∙ done_more (parts_of os) o.part ∙ ap (λ (x : List ℕ). done ++ x) text in
    let more : records_of l (items_of (os ++ o ∷ [])) ≡ made ++ c.as_bytes.result.now =
    ap (records_of l) (items_more os o) ∙ flat_map-append (record_of l) (items_of os) o.items ∙ ap (λ (x : List ℕ). made ++ x) (sym (c.as_bytes.ensures.value ∙ taken.2 ∙ ap (λ (m : Layout). records_of m o.items) wrote.0)) in
    (taken.1 ∙ wrote.0, rw (read, more) (c.in_ok-append.ensures done made (rw taken.0 wrote.1)))
