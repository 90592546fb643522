use Rattle.souper_embedding.proofs.Examples.{first, second}
use Rattle.souper_embedding.proofs.laws.law_of_two_maps.Goals as goal

pub returns-clause-first : goal.returns-clause-first
returns-clause-first c = first

pub returns-clause-second : goal.returns-clause-second
returns-clause-second c = second
