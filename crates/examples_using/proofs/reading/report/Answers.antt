use Rattle.std.proofs.Common.{sym, ◌∙◌}
use Rattle.examples_using.proofs.Reports.{of_count, of_refusal}
use Rattle.examples_using.proofs.reading.report.Goals as goal

pub returns-in-Ok : goal.returns-in-Ok
returns-in-Ok c = of_count c.args.source.now c.in-Ok.items.items c.len.result c.format.result c.in-Ok.ensures.spelled (c.len.ensures ∙ c.in-Ok.items.ok.0) c.format.ensures.ok

pub returns-in-Parse-Some : goal.returns-in-Parse-Some
returns-in-Parse-Some c = of_refusal c.args.source.now c.in-Err.error c.in-Parse-Some.offset c.format-in-Parse-Some.result c.in-Err.ensures.refused
    (sym c.kind.ensures ∙ c.in-Parse-Some.is-0) (sym c.in-Parse-Some.is-1 ∙ c.offset.ensures) c.format-in-Parse-Some.ensures.ok
