use Rattle.souper_widths.proofs.Powers.{below-large, below-shifted}
use Rattle.souper_widths.proofs.limits.is_below_power.Goals as goal

pub returns-then-power-ge128 : goal.returns-then-power-ge128
returns-then-power-ge128 c = below-large c.args.number 128 c.args.power c.ranges.number.fits c.if-power-ge128.true

pub returns-else-power-ge128 : goal.returns-else-power-ge128
returns-else-power-ge128 c = below-shifted c.args.number c.args.power
