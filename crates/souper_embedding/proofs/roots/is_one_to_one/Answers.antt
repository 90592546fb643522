use Rattle.std.proofs.Common.{ℕ, ◌<◌, List, length, Option, sym, ap, ◌∙◌, subst}
use Rattle.souper_embedding.specs.Maps.{IsUnknown}
use Rattle.souper_embedding.proofs.roots.is_one_to_one.Goals as goal

pub returns-clause-complete : goal.returns-clause-complete
returns-clause-complete c = λ one inside.
    c.invert.ensures.complete (subst (λ (z : List (Option ℕ)). IsUnknown z) (sym c.as_mut_slice.ensures.value) c.in_ok-from.ensures.unknown) one
    (λ p q g. subst (λ n. q < n) (sym (ap length c.as_mut_slice.ensures.value ∙ c.in_ok-from.ensures.long)) (inside p q g))
