use Rattle.std.proofs.Common.{refl, sym, subst, List, ℕ, Bor, arith}
use Rattle.std.specs.Str.Iter.{HasSubslice}
use Rattle.souper_hint.proofs.Parts.{part_or_empty}
use Rattle.souper_hint.proofs.tokens.TokensIterator.next.Goals as goal

pub returns-clause-steps : goal.returns-clause-steps
returns-clause-steps c = (
  refl,
  subst (λ (r : Bor (List ℕ)). HasSubslice c.args.self.now.text.now r.now) (sym c.unwrap_or.ensures)
      (part_or_empty c.args.self.now.text.now _ _ c.get.result _ (omega (arith, c.token_end-end.ensures.start)) c.get.ensures.cases refl),
)
