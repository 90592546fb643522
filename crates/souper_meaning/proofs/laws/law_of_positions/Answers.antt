use Rattle.souper_meaning.proofs.ByPosition.{by_statement}
use Rattle.souper_meaning.proofs.laws.law_of_positions.Goals as goal

pub returns : goal.returns
returns c = by_statement
