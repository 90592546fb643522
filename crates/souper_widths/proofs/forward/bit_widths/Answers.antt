use Rattle.souper_widths.proofs.ForwardRows.{bit-forced}
use Rattle.souper_widths.proofs.forward.bit_widths.Goals as goal

pub returns-then-written-le1 : goal.returns-then-written-le1
returns-then-written-le1 c = bit-forced c.args.results.now c.args.ty c.args.operands.now c.in_ok-written.written c.in_ok-width.width c.in_ok-written.ensures c.if-written-le1.true c.in_ok-width.ensures
