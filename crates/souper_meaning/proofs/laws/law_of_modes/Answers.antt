use Rattle.souper_meaning.proofs.Modes.{sound_for_values, vacuous_for_values}
use Rattle.souper_meaning.proofs.laws.law_of_modes.Goals as goal

pub returns-clause-sound : goal.returns-clause-sound
returns-clause-sound c = sound_for_values

pub returns-clause-vacuous : goal.returns-clause-vacuous
returns-clause-vacuous c = vacuous_for_values

pub returns-clause-vacuous_is_sound : goal.returns-clause-vacuous_is_sound
returns-clause-vacuous_is_sound c = λ mode a m v. (v.0, λ x w h. absurd (v.1 x w h))
