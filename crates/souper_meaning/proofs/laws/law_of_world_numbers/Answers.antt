use Rattle.souper_meaning.proofs.NumberedExamples.{value_numbered, poison_numbered, second_numbered, predecessor_numbered}
use Rattle.souper_meaning.proofs.laws.law_of_world_numbers.Goals as goal

pub returns-clause-value : goal.returns-clause-value
returns-clause-value c = λ p n. value_numbered p

pub returns-clause-poison : goal.returns-clause-poison
returns-clause-poison c = λ p n. poison_numbered p

pub returns-clause-second : goal.returns-clause-second
returns-clause-second c = λ p n. second_numbered p

pub returns-clause-predecessor : goal.returns-clause-predecessor
returns-clause-predecessor c = λ p n. predecessor_numbered p
