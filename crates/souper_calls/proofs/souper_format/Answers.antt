use Rattle.std.proofs.Common.{rules}
use Rattle.souper_calls.specs.Outcomes.{FormatsTo}
use Rattle.souper_calls.proofs.Failures.{refusal_is_short}
use Rattle.souper_calls.proofs.souper_format.Goals as goal

-- src/lib.rt:53:1
pub returns-in-Refused-clause-short : goal.returns-in-Refused-clause-short
returns-in-Refused-clause-short c =
    refusal_is_short FormatsTo c.args.kind c.args.text.now c.args.out.now c.write-in-Refused.new.out c.in-Refused.refusal c.outcome-outcome.result
    c.write-in-Refused.result (search rules) (search rules) (search rules)
