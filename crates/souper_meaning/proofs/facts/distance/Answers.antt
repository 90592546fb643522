use Rattle.souper_meaning.proofs.FactBits.{wraps_up, wraps_around}
use Rattle.souper_meaning.proofs.facts.distance.Goals as goal

pub returns-then-from-to : goal.returns-then-from-to
returns-then-from-to c = wraps_up c.args.from c.args.to c.args.mask c.if-from-to.true c.requires.to

pub returns-else-from-to : goal.returns-else-from-to
returns-else-from-to c = wraps_around c.args.from c.args.to c.args.mask c.if-from-to.false c.requires.from
