use Rattle.std.proofs.Common.{◌≡◌, map, length, refl, ap, ◌∙◌, arith}
use Rattle.std.proofs.lemmas.List.{nil_from_length}
use Rattle.souper_records.specs.Uniques.{text_count}
use Rattle.souper_records.proofs.Distinct.{inserted}
use Rattle.souper_records.proofs.uniq.see_texts.Goals as goal

pub loop-text-init : goal.loop-text-init
loop-text-init c = rw c.into_iter-text-iterator.ensures.into_iter_gives.0 refl

pub loop-text-preserved : goal.loop-text-preserved
loop-text-preserved c = rw (ap (map text_count) c.in_ok-count.ensures ∙ inserted c.in-Some.text c.loop-text.seen.counts.entries) (rw c.in-Some.ensures.steps.0 at c.loop-text.invariant)

pub returns : goal.returns
returns c =
    let rest = c.loop-text.text-iterator.rest in
    let none : length rest.items ≡ 0 = omega (arith, rest.ok, c.in-None.ensures.steps.0) in
    rw (nil_from_length rest.items none) at c.loop-text.invariant
