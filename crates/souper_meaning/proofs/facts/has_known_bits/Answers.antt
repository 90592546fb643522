use Rattle.std.proofs.Common.{◌<◌, ◌∙◌, Bool, Option, None, List, length, get_or, refl, sym, arith}
use Rattle.std.proofs.lemmas.Bool.{false≢true}
use Rattle.std.proofs.lemmas.List.{get_or_default}
use Rattle.souper_meaning.proofs.FactBits.{known_more, known_not, known_all}
use Rattle.souper_meaning.proofs.facts.has_known_bits.Goals as goal

pub loop-index-preserved : goal.loop-index-preserved
loop-index-preserved c =
    let bs : List (Option Bool) = c.args.bits.now in
    let b : Option Bool = get_or bs c.loop-index.index None in
    let l : c.loop-index.index < length bs = omega (arith, c.loop-index-test.true) in
    known_more bs c.args.n c.loop-index.index c.place_of-place.result b l (omega (arith, l, c.place_of-place.ensures)) (get_or_default bs c.loop-index.index None b l) (c.is_known_bit-is_known.ensures.0 c.if-not-is_known.false)
    c.loop-index.invariant

pub returns : goal.returns
returns c = ((λ e. known_all c.args.bits.now c.args.n c.loop-index.index (omega arith) c.loop-index.invariant), (λ h. refl))

pub returns-then-not-is_known : goal.returns-then-not-is_known
returns-then-not-is_known c =
    let bs : List (Option Bool) = c.args.bits.now in
    let b : Option Bool = get_or bs c.loop-index.index None in
    let l : c.loop-index.index < length bs = omega (arith, c.loop-index-test.true) in (
      (λ e. absurd (false≢true e)),
      (λ h. absurd (known_not bs c.args.n c.loop-index.index c.place_of-place.result b l (omega (arith, l, c.place_of-place.ensures)) (get_or_default bs c.loop-index.index None b l)
          (λ k. false≢true (sym c.if-not-is_known.true ∙ c.is_known_bit-is_known.ensures.1 k)) c.loop-index.invariant h)),
    )
