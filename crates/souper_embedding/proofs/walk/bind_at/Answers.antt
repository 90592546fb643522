use Rattle.std.proofs.Common.{◌≡◌, length, map, Some, None, sym, subst}
use Rattle.souper_graph.specs.Lookup.{assignment_at}
use Rattle.souper_graph.specs.Uses.{position_of, uses_of_optional}
use Rattle.souper_graph.specs.View.{view_assignment, view_statement}
use Rattle.souper_embedding.specs.Embedding.{StandsFor}
use Rattle.souper_embedding.specs.Maps.{Binds, AreBelow}
use Rattle.souper_embedding.proofs.Assignments.{there, not-there, the-one}
use Rattle.souper_embedding.proofs.walk.bind_at.Goals as goal

pub returns-in-Some-assignment-clause-bound : goal.returns-in-Some-assignment-clause-bound
returns-in-Some-assignment-clause-bound c = λ t.
    let e : Some c.in-Some.x.now ≡ assignment_at c.args.stored.now c.args.p = cc (c.in-Some.ensures) in
    let at = there c.args.stored.now c.args.p c.in-Some.x.now e in
    subst (λ o. Binds c.args.to.now c.bind_assignment.new.to (map position_of (uses_of_optional o))) (sym at) (c.bind_assignment.ensures.bound t)

pub returns-in-Some-assignment-clause-sound : goal.returns-in-Some-assignment-clause-sound
returns-in-Some-assignment-clause-sound c = λ t f w.
    let e : Some c.in-Some.x.now ≡ assignment_at c.args.stored.now c.args.p = cc (c.in-Some.ensures) in
    let d : Some c.in-Some-assignment.y.now ≡ assignment_at c.args.query.now c.args.q = cc (c.in-Some-assignment.ensures) in
    (view_assignment c.in-Some.x.now, view_assignment c.in-Some-assignment.y.now, there c.args.stored.now c.args.p c.in-Some.x.now e, there c.args.query.now c.args.q c.in-Some-assignment.y.now d, c.bind_assignment.ensures.sound t f w)

pub returns-in-Some-assignment-clause-forced : goal.returns-in-Some-assignment-clause-forced
returns-in-Some-assignment-clause-forced c = λ f w h below.
    let e : Some c.in-Some.x.now ≡ assignment_at c.args.stored.now c.args.p = cc (c.in-Some.ensures) in
    let d : Some c.in-Some-assignment.y.now ≡ assignment_at c.args.query.now c.args.q = cc (c.in-Some-assignment.ensures) in
    let at = there c.args.stored.now c.args.p c.in-Some.x.now e in
    let into = there c.args.query.now c.args.q c.in-Some-assignment.y.now d in
    let a = the-one (map view_statement c.args.stored.now) c.args.p h.0 (view_assignment c.in-Some.x.now) h.2 at in
    let b = the-one (map view_statement c.args.query.now) c.args.q h.1 (view_assignment c.in-Some-assignment.y.now) h.3 into in
    c.bind_assignment.ensures.forced f w (subst (λ z. StandsFor f z (view_assignment c.in-Some-assignment.y.now)) a (subst (λ z. StandsFor f h.0 z) b h.4))
    (subst (λ o. AreBelow (length c.args.to.now) (map position_of (uses_of_optional o))) at below)

pub returns-in-None-assignment-clause-forced : goal.returns-in-None-assignment-clause-forced
returns-in-None-assignment-clause-forced c = λ f w h below.
    let e : None ≡ assignment_at c.args.query.now c.args.q = cc (c.in-None-assignment.ensures) in
    absurd (not-there c.args.query.now c.args.q h.1 e h.3)

pub returns-in-None-clause-forced : goal.returns-in-None-clause-forced
returns-in-None-clause-forced c = λ f w h below.
    let e : None ≡ assignment_at c.args.stored.now c.args.p = cc (c.in-None.ensures) in
    absurd (not-there c.args.stored.now c.args.p h.0 e h.2)
