use Rattle.souper_meaning.proofs.FactBits.{below_shifted}
use Rattle.souper_meaning.proofs.facts.is_below_place.Goals as goal

pub returns : goal.returns
returns c = below_shifted c.args.n c.args.place
