use Rattle.std.proofs.Common.{rules}
use Rattle.std.specs.String.{string_bytes}
use Rattle.souper_calls.specs.Records.{RecordsTo}
use Rattle.souper_calls.proofs.Failures.{refusal_has_place, refusal_is_short, refusal_is_written, bytes_are_written}
use Rattle.souper_calls.proofs.souper_key.Goals as goal

pub returns-in-Ok-clause-recorded : goal.returns-in-Ok-clause-recorded
returns-in-Ok-clause-recorded c = λ done.
    let written = bytes_are_written c.args.out.now c.write.new.out (string_bytes c.in-Ok.records) c.new-outcome.result c.write.result (search rules) (search rules) done in
    (string_bytes c.in-Ok.records, c.in-Ok.ensures.recorded c.args.flags (search rules), written.0, written.1)

pub returns-in-Refused-clause-refused : goal.returns-in-Refused-clause-refused
returns-in-Refused-clause-refused c =
    refusal_is_written c.args.kind c.args.text.now c.args.out.now c.write-in-Refused.new.out c.in-Refused.refusal c.outcome-outcome.result
    c.write-in-Refused.result (search rules) (search rules) (search rules)

pub returns-in-Refused-clause-short : goal.returns-in-Refused-clause-short
returns-in-Refused-clause-short c =
    refusal_is_short (RecordsTo c.args.flags) c.args.kind c.args.text.now c.args.out.now c.write-in-Refused.new.out c.in-Refused.refusal c.outcome-outcome.result
    c.write-in-Refused.result (search rules) (search rules) (search rules)

pub returns-in-Refused-clause-no_place : goal.returns-in-Refused-clause-no_place
returns-in-Refused-clause-no_place c = refusal_has_place c.args.out.now c.write-in-Refused.new.out c.in-Refused.refusal c.outcome-outcome.result c.write-in-Refused.result (search rules) (search rules)
