use Rattle.std.proofs.Common.{rules, refl, inl, string_bytes}
use Rattle.souper_records.proofs.report.report_input.Goals as goal

pub is_at_end-requires : goal.is_at_end-requires
is_at_end-requires g c = let (k, start, now, ps, some, had) = c.requires (search rules) in (k, start, now, ps, had)

pub returns-in-Ok-clause-reported : goal.returns-in-Ok-clause-reported
returns-in-Ok-clause-reported g c =
    inl (refl, search rules, (c.is_at_end.result, c.is_at_end.ensures, λ works. (string_bytes c.in-Ok.line, c.in-Ok.ensures, c.report_line.ensures.given works)))
