use Rattle.std.proofs.Common.{◌≡◌, length, map, true, Some, None, sym, ap, ◌∙◌, subst}
use Rattle.std.specs.Prelude.{slice_get}
use Rattle.souper_graph.specs.Sameness.{carried}
use Rattle.souper_graph.specs.Uses.{position_of, uses_of_optional, is_condition}
use Rattle.souper_graph.specs.View.{view_statement}
use Rattle.souper_embedding.specs.Maps.{Binds, AreBelow}
use Rattle.souper_embedding.proofs.Assignments.{seen-at, not-at, the-statement}
use Rattle.souper_embedding.proofs.conditions.bind_condition.Goals as goal

pub returns-in-Some-get-clause-bound : goal.returns-in-Some-get-clause-bound
returns-in-Some-get-clause-bound c = λ t.
    let e : Some c.in-Some.x.now ≡ slice_get c.args.stored.now c.args.p = cc (c.in-Some.ensures) in
    subst (λ o. Binds c.args.to.now c.bind_conditions.new.to (map position_of (uses_of_optional o))) (sym (seen-at c.args.stored.now c.args.p c.in-Some.x.now e)) (c.bind_conditions.ensures.bound t)

pub returns-in-Some-get-clause-sound : goal.returns-in-Some-get-clause-sound
returns-in-Some-get-clause-sound c = λ t f s w there.
    let e : Some c.in-Some.x.now ≡ slice_get c.args.stored.now c.args.p = cc (c.in-Some.ensures) in
    let d : Some c.in-Some-get.y.now ≡ slice_get c.args.query.now c.args.q = cc (c.in-Some-get.ensures) in
    let a = the-statement (map view_statement c.args.stored.now) c.args.p (view_statement c.in-Some.x.now) s (seen-at c.args.stored.now c.args.p c.in-Some.x.now e) there in
    seen-at c.args.query.now c.args.q c.in-Some-get.y.now d ∙ ap (λ z. Some z) (c.bind_conditions.ensures.sound t f w ∙ ap (carried f) a)

pub returns-in-Some-get-clause-forced : goal.returns-in-Some-get-clause-forced
returns-in-Some-get-clause-forced c = λ f s w there cond met below.
    let e : Some c.in-Some.x.now ≡ slice_get c.args.stored.now c.args.p = cc (c.in-Some.ensures) in
    let d : Some c.in-Some-get.y.now ≡ slice_get c.args.query.now c.args.q = cc (c.in-Some-get.ensures) in
    let at = seen-at c.args.stored.now c.args.p c.in-Some.x.now e in
    let a = the-statement (map view_statement c.args.stored.now) c.args.p s (view_statement c.in-Some.x.now) there at in
    let b = the-statement (map view_statement c.args.query.now) c.args.q (view_statement c.in-Some-get.y.now) (carried f s) (seen-at c.args.query.now c.args.q c.in-Some-get.y.now d) met in
    c.bind_conditions.ensures.forced f w (subst (λ z. is_condition z ≡ true) a cond) (b ∙ ap (carried f) a) (subst (λ o. AreBelow (length c.args.to.now) (map position_of (uses_of_optional o))) at below)

pub returns-in-None-get-clause-forced : goal.returns-in-None-get-clause-forced
returns-in-None-get-clause-forced c = λ f s w there cond met below.
    let e : None ≡ slice_get c.args.query.now c.args.q = cc (c.in-None-get.ensures) in
    absurd (not-at c.args.query.now c.args.q (carried f s) e met)

pub returns-in-None-clause-forced : goal.returns-in-None-clause-forced
returns-in-None-clause-forced c = λ f s w there cond met below.
    let e : None ≡ slice_get c.args.stored.now c.args.p = cc (c.in-None.ensures) in
    absurd (not-at c.args.stored.now c.args.p s e there)
