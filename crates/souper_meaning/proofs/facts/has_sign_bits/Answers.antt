use Rattle.std.proofs.Common.{ℕ, refl, sym, subst}
use Rattle.souper_meaning.specs.Facts.{HasSignBits}
use Rattle.souper_meaning.proofs.FactBits.{no_sign_bits}
use Rattle.souper_meaning.proofs.facts.has_sign_bits.Goals as goal

pub returns-then-count-eq0 : goal.returns-then-count-eq0
returns-then-count-eq0 c = ((λ t. subst (λ (k : ℕ). HasSignBits c.args.width k c.args.n) (sym c.if-count-eq0.true) (no_sign_bits c.args.width c.args.n c.requires.fits)), (λ h. refl))
