use Rattle.std.proofs.Common.{refl}
use Rattle.souper_widths.proofs.ForwardRows.{same-forced, phi-forced}
use Rattle.souper_widths.proofs.forward.same_widths.Goals as goal

pub returns-then-constants_fit-clause-same : goal.returns-then-constants_fit-clause-same
returns-then-constants_fit-clause-same c = same-forced c.args.results.now c.args.ty c.args.operands.now c.in_ok-written.written c.in_ok-before.before c.in_ok-width.width c.in_ok-written.ensures c.in_ok-before.ensures c.in_ok-width.ensures c.if-width-ne0.true (c.if-constants_fit.ensures.0 refl)

pub returns-then-constants_fit-clause-phi : goal.returns-then-constants_fit-clause-phi
returns-then-constants_fit-clause-phi c = phi-forced c.args.results.now c.args.ty c.args.operands.now c.in_ok-written.written c.in_ok-before.before c.in_ok-width.width c.in_ok-written.ensures c.in_ok-before.ensures c.in_ok-width.ensures c.if-width-ne0.true (c.if-constants_fit.ensures.0 refl)
