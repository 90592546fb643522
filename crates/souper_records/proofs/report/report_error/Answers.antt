use Rattle.std.proofs.Common.{rules, refl, inl, string_bytes}
use Rattle.souper_records.proofs.report.report_error.Goals as goal

pub returns-clause-reported : goal.returns-clause-reported
returns-clause-reported g c = inl (refl, search rules, λ works. (string_bytes c.in-Ok.line, c.in-Ok.ensures, c.report_line.ensures.given works))
