use Rattle.std.proofs.Common.{refl, rules, sym}
use Rattle.souper_widths.specs.declared.rows.Row.TheVariants.{Select}
use Rattle.souper_widths.proofs.ForwardRows.{select-some}
use Rattle.souper_widths.proofs.forward.select_widths.Goals as goal

pub returns-then-constant_fits : goal.returns-then-constant_fits
returns-then-constant_fits c = select-some c.args.results.now c.args.ty c.in_ok-condition.condition.now c.in_ok-condition.arms.now c.args.operands.now c.in_ok-bit.bit c.same_widths.result
    c.in_ok-condition.ensures.cases.0 c.in_ok-bit.ensures c.if-bit-le1.true (c.if-constant_fits.ensures.0 refl) c.same_widths.ensures.same
