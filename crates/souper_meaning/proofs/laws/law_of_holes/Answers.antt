use Rattle.souper_meaning.proofs.Verdicts.{holed-unsound, holed-not-vacuous}
use Rattle.souper_meaning.proofs.laws.law_of_holes.Goals as goal

pub returns-clause-unsound : goal.returns-clause-unsound
returns-clause-unsound c = holed-unsound

pub returns-clause-not_vacuous : goal.returns-clause-not_vacuous
returns-clause-not_vacuous c = holed-not-vacuous
