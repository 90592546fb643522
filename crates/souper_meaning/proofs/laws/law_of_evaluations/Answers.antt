use Rattle.souper_meaning.proofs.OneEvaluation.{one_evaluation, refused_for_widths}
use Rattle.souper_meaning.proofs.laws.law_of_evaluations.Goals as goal

pub returns-clause-one : goal.returns-clause-one
returns-clause-one c = one_evaluation

pub returns-clause-refused : goal.returns-clause-refused
returns-clause-refused c = refused_for_widths
