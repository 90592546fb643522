use Rattle.souper_words.proofs.OutcomeBits.{outcome_below}
use Rattle.souper_words.proofs.laws.law_of_bits_of_outcomes.Goals as goal

pub returns : goal.returns
returns c = outcome_below
