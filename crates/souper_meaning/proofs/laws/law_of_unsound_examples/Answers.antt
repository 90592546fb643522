use Rattle.souper_meaning.proofs.Verdicts.{shifted-unsound, either-unsound, thawed-unsound, overflowing-unsound, divided-unsound}
use Rattle.souper_meaning.proofs.laws.law_of_unsound_examples.Goals as goal

pub returns-clause-overflow : goal.returns-clause-overflow
returns-clause-overflow c = shifted-unsound

pub returns-clause-poison_arm : goal.returns-clause-poison_arm
returns-clause-poison_arm c = either-unsound

pub returns-clause-freeze : goal.returns-clause-freeze
returns-clause-freeze c = thawed-unsound

pub returns-clause-undefined : goal.returns-clause-undefined
returns-clause-undefined c = overflowing-unsound

pub returns-clause-undefined_arm : goal.returns-clause-undefined_arm
returns-clause-undefined_arm c = divided-unsound
