use Rattle.std.proofs.Common.{rules, ◌∙◌}
use Rattle.souper_code.proofs.Items.{no_front}
use Rattle.souper_code.proofs.flaw.first_flaw.Goals as goal

pub returns-in_err-item-clause-no_code : goal.returns-in_err-item-clause-no_code
returns-in_err-item-clause-no_code g c =
    no_front _ c.args.code.now _ c.in_err-item.field-0.0 (λ x rest fits e. c.in_err-item.ensures.only x rest fits (c.new-reader.ensures ∙ e)) (search rules)
