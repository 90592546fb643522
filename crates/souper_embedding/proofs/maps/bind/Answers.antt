use Rattle.std.proofs.Common.{◌≡◌, ◌<◌, length, Some, None, refl, ap, ◌∙◌, arith}
use Rattle.std.specs.Prelude.{slice_get}
use Rattle.std.proofs.lemmas.Option.{slice_get-get_or}
use Rattle.souper_embedding.proofs.KnownMaps.{binds-new, follows-new, get-same}
use Rattle.souper_embedding.proofs.maps.bind.Goals as goal

pub returns-in-None-clause-bound : goal.returns-in-None-clause-bound
returns-in-None-clause-bound c = λ t.
    let l : c.args.p < length c.args.to.now = omega arith in
    let none : slice_get c.args.to.now c.args.p ≡ Some None = slice_get-get_or c.args.to.now c.args.p None l ∙ ap (λ z. Some z) c.in-None.is in
    binds-new c.args.to.now c.args.p c.args.q l none

pub returns-in-None-clause-goes : goal.returns-in-None-clause-goes
returns-in-None-clause-goes c = λ t. let l : c.args.p < length c.args.to.now = omega arith in get-same c.args.to.now c.args.p (Some c.args.q) l

pub returns-in-None-clause-forced : goal.returns-in-None-clause-forced
returns-in-None-clause-forced c = λ f w e l. (refl, follows-new c.args.to.now c.args.p c.args.q f l w e)
