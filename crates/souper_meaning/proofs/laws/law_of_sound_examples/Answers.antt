use Rattle.souper_meaning.proofs.Verdicts.{doubled-sound, contradicted-vacuous}
use Rattle.souper_meaning.proofs.laws.law_of_sound_examples.Goals as goal

pub returns-clause-doubled : goal.returns-clause-doubled
returns-clause-doubled c = doubled-sound

pub returns-clause-vacuous : goal.returns-clause-vacuous
returns-clause-vacuous c = contradicted-vacuous
