use Rattle.std.proofs.Common.{rules}
use Rattle.souper_widths.proofs.ForwardOperands.{force-more}
use Rattle.souper_widths.proofs.forward.width_before.Goals as goal

pub loop-operand-preserved : goal.loop-operand-preserved
loop-operand-preserved c = force-more c.args.results.now c.loop-operand.width c.in_ok-own.own c.in_ok-width.width c.args.operands.now c.loop-operand.operand-index c.operand-item.result (search rules) c.operand-item.is
    c.in_ok-width.ensures c.loop-operand.invariant c.in_ok-own.ensures
