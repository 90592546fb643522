use Rattle.souper_widths.proofs.ForwardRows.{resized-forced}
use Rattle.souper_widths.proofs.forward.resized_widths.Goals as goal

pub returns-else-own-eq0 : goal.returns-else-own-eq0
returns-else-own-eq0 c = resized-forced c.args.results.now c.args.ty c.args.operands.now c.in_ok-own.own c.in_ok-width.width c.in_ok-own.ensures c.if-own-eq0.false c.in_ok-width.ensures
