use Rattle.souper_embedding.proofs.Examples.{unmet, predecessor, fact, demanded-more, demanded-all, operands, inputs, width}
use Rattle.souper_embedding.proofs.laws.law_of_other_examples.Goals as goal

pub returns-clause-unmet : goal.returns-clause-unmet
returns-clause-unmet c = unmet

pub returns-clause-predecessor : goal.returns-clause-predecessor
returns-clause-predecessor c = predecessor

pub returns-clause-fact : goal.returns-clause-fact
returns-clause-fact c = fact

pub returns-clause-demanded : goal.returns-clause-demanded
returns-clause-demanded c = demanded-more

pub returns-clause-demanded_all : goal.returns-clause-demanded_all
returns-clause-demanded_all c = demanded-all

pub returns-clause-operands : goal.returns-clause-operands
returns-clause-operands c = operands

pub returns-clause-inputs : goal.returns-clause-inputs
returns-clause-inputs c = inputs

pub returns-clause-width : goal.returns-clause-width
returns-clause-width c = width
