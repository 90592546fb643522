use Rattle.souper_widths.proofs.ForwardRows.{condition-forced}
use Rattle.souper_widths.proofs.forward.condition_widths.Goals as goal

pub returns : goal.returns
returns c = condition-forced c.args.results.now c.args.operands.now c.in_ok-width.width c.in_ok-width.ensures
