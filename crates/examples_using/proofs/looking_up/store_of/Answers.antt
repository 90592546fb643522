use Rattle.std.proofs.Common.{◌≡◌, length, [], refl, arith}
use Rattle.std.proofs.lemmas.List.{nil_from_length}
use Rattle.examples_using.proofs.looking_up.store_of.Goals as goal

pub loop-replacement-init : goal.loop-replacement-init
loop-replacement-init c = rw c.into_iter-replacement-iterator.ensures.into_iter_gives.0 (λ well. (well, ([], c.new-store.ensures, λ final added. added)))

pub loop-replacement-preserved : goal.loop-replacement-preserved
loop-replacement-preserved c = λ well.
    let before = (rw c.in-Some.ensures.steps.0 at c.loop-replacement.invariant) well in
    let one = c.in_ok-add.ensures.added before.1.0 before.1.1 before.0.0 in
    (before.0.1, (one.0, one.2, λ final more. before.1.2 final (c.in_ok-add.field-0, one.0, one.1, more)))

pub returns : goal.returns
returns c = λ well.
    let rest = c.loop-replacement.replacement-iterator.rest in
    let none : length rest.items ≡ 0 = omega (arith, rest.ok, c.in-None.ensures.steps.0) in
    let all = (rw (nil_from_length rest.items none) at c.loop-replacement.invariant) well in
    (all.1.0, all.1.2 all.1.0 refl, all.1.1)
