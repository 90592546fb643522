use Rattle.std.proofs.Common.{◌∙◌, inl, inr, refl, sym}
use Rattle.std.proofs.lemmas.Bool.{false≢true}
use Rattle.souper_meaning.proofs.conditions.block_condition_is_met.Goals as goal

pub returns-then-not-is_reached : goal.returns-then-not-is_reached
returns-then-not-is_reached c = ((λ t. inl (λ e. false≢true (sym c.if-not-is_reached.true ∙ c.is_reached_by-is_reached.ensures.1 e))), (λ h. refl))

pub returns : goal.returns
returns c = (
  (λ t. inr (c.are_equal.ensures.0 t)),
  (λ h. elim h [ inl n ↦ absurd (n (c.is_reached_by-is_reached.ensures.0 c.if-not-is_reached.false)) | inr k ↦ c.are_equal.ensures.1 k ]),
)
