use Rattle.souper_errors.proofs.Shown.OnePlace.{one_place}
use Rattle.souper_errors.proofs.laws.law_of_places.Goals as goal

pub returns : goal.returns
returns c = one_place
