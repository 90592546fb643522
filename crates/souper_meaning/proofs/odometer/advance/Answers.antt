use Rattle.std.proofs.Common.{◌∙◌, ℕ, ◌+◌, length, List, get_or, ap, arith}
use Rattle.std.specs.Prelude.{slice_index}
use Rattle.std.proofs.Math.ListN.{set}
use Rattle.std.proofs.lemmas.List.{get_or-set_other, get_or-set_same}
use Rattle.souper_meaning.proofs.Counting.{step_on}
use Rattle.souper_meaning.proofs.odometer.advance.Goals as goal

pub returns-then-digit-counts-clause-next : goal.returns-then-digit-counts-clause-next
returns-then-digit-counts-clause-next c below =
    let p : ℕ = c.loop-place.place in
    let xs : List ℕ = c.loop-place.digits in
    let v : ℕ = get_or xs p 0 + 1 in
    step_on (slice_index c.args.counts.now) (slice_index c.args.digits.now) (slice_index (set xs p v)) p (length c.args.counts.now) (omega arith) c.loop-place.invariant.full
    (λ q l. get_or-set_other xs p q v 0 (omega arith) ∙ c.loop-place.invariant.zeros q l)
    (get_or-set_same xs p v 0 (omega arith) ∙ ap (λ (z : ℕ). z + 1) (c.loop-place.invariant.kept p (omega arith)))
    (λ q l. get_or-set_other xs p q v 0 (omega arith) ∙ c.loop-place.invariant.kept q (omega arith))
