use Rattle.souper_errors.proofs.Shown.After.{place_next}
use Rattle.souper_errors.proofs.place.next_of.Goals as goal

pub returns-clause-place : goal.returns-clause-place
returns-clause-place c = place_next c.requires.line c.line_of-found.ensures.place
