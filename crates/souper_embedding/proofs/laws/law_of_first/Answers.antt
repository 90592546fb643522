use Rattle.souper_embedding.proofs.Determined.{first-determined}
use Rattle.souper_embedding.proofs.laws.law_of_first.Goals as goal

pub returns : goal.returns
returns c = first-determined
