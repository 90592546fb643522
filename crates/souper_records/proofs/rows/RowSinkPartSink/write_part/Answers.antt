use Rattle.std.proofs.Common.{◌≡◌, ◌++◌, refl, sym, ap, ◌∙◌, string_bytes}
use Rattle.std.proofs.KnownBytes.{Appends-trans}
use Rattle.souper_records.specs.Outputs.{part_text, outcome_text}
use Rattle.souper_records.proofs.Outcomes.{row_texts_more}
use Rattle.souper_records.proofs.rows.RowSinkPartSink.write_part.Goals as goal

pub returns-clause-written : goal.returns-clause-written
returns-clause-written g c = λ first start os before o wrote idle taken starts text refusal.
    let name = c.args.part.name.now in
    let rows = c.args.self.now.rows.items in
    let made = rw wrote.0 at taken.1 in
    let text_of = outcome_text g.V.Shown.as_records g.V.Shown.as_lines (g.M.Rows.output_of first.maker) name in
    let output = c.output.ensures ∙ ap g.M.Rows.output_of (taken.0 ∙ wrote.0) in
    let written : string_bytes c.in_ok-text.text ≡ text_of o rows =
    c.in_ok-text.ensures ∙ (λ i. part_text g.V.Shown.as_records g.V.Shown.as_lines (output i) name (sym starts i) (sym refusal i) rows) in
    (taken.0 ∙ wrote.0, wrote.1 ++ text_of o rows, row_texts_more (g.M.Rows.makes first.maker) text_of os o wrote.1 rows wrote.2 made, Appends-trans _ _ _ _ _ wrote.3 (rw written at c.in_ok-write_text.ensures.written))

pub returns-clause-none : goal.returns-clause-none
returns-clause-none g c = (refl, rw c.clear.ensures.items tt)
