use Rattle.std.proofs.Common.{Some}
use Rattle.souper_watched.specs.Streams.{IsGiven, stream}
use Rattle.souper_watched.specs.Watching.{has_failed}
use Rattle.souper_find.proofs.Filling.{is_written}
use Rattle.souper_find.proofs.hints.report_hint.Goals as goal

pub returns-clause-reported : goal.returns-clause-reported
returns-clause-reported g c = λ works.
    let given : IsGiven (stream g.E.Write.contents c.args.err.now c.write_all.new.self) c.as_bytes.result.now = is_written c.write_all.result (has_failed c.write_all.new.self) _ c.write_all.ensures.bytes c.write_all.ensures.err works in
    let (text, is) = c.in-Some.ensures in
    (Some text, rw (c.as_bytes.ensures.value, is) at given)
