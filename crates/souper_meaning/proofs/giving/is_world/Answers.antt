use Rattle.std.proofs.Common.{refl}
use Rattle.std.proofs.lemmas.Bool.{false≢true}
use Rattle.souper_meaning.proofs.giving.is_world.Goals as goal

pub returns-in-Some : goal.returns-in-Some
returns-in-Some c = (
  (λ e. absurd (false≢true e)),
  (λ h. absurd (c.in-Some.ensures.fails (h c.in-Some.field-0 c.in-Some.ensures.needed))),
)

pub returns-in-None : goal.returns-in-None
returns-in-None c = ((λ e. c.in-None.ensures), (λ h. refl))
