use Rattle.souper_meaning.proofs.FactBits.{below_large, below_shifted}
use Rattle.souper_meaning.proofs.giving.fits.Goals as goal

pub returns-then-width-ge128 : goal.returns-then-width-ge128
returns-then-width-ge128 c = below_large c.args.n 128 c.args.width c.ranges.n.fits c.if-width-ge128.true

pub returns-else-width-ge128 : goal.returns-else-width-ge128
returns-else-width-ge128 c = below_shifted c.args.n c.args.width
