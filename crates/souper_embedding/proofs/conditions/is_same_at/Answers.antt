use Rattle.std.proofs.Common.{◌≡◌, Some, None, sym, ap, ◌∙◌, subst}
use Rattle.std.specs.Prelude.{map, slice_get, IsTrue}
use Rattle.souper_graph.specs.Values.{PlainStatement}
use Rattle.souper_graph.specs.Uses.{is_condition}
use Rattle.souper_graph.specs.View.{view_statement}
use Rattle.souper_embedding.proofs.Assignments.{seen-at, not-at, the-statement}
use Rattle.souper_embedding.proofs.conditions.is_same_at.Goals as goal

pub returns-in-Some-get-clause-same : goal.returns-in-Some-get-clause-same
returns-in-Some-get-clause-same c = λ t.
    let d : Some c.in-Some.x.now ≡ slice_get c.args.statements.now c.args.p = cc (c.in-Some.ensures) in
    let e : Some c.in-Some-get.y.now ≡ slice_get c.args.statements.now c.args.q = cc (c.in-Some-get.ensures) in
    seen-at c.args.statements.now c.args.p c.in-Some.x.now d ∙ ap (λ z. Some z) (c.are_same.ensures.same t) ∙ sym (seen-at c.args.statements.now c.args.q c.in-Some-get.y.now e)

pub returns-in-Some-get-clause-other : goal.returns-in-Some-get-clause-other
returns-in-Some-get-clause-other c = λ s ep eq t.
    let ss = map view_statement c.args.statements.now in
    let d : Some c.in-Some.x.now ≡ slice_get c.args.statements.now c.args.p = cc (c.in-Some.ensures) in
    let e : Some c.in-Some-get.y.now ≡ slice_get c.args.statements.now c.args.q = cc (c.in-Some-get.ensures) in
    let a = the-statement ss c.args.p (view_statement c.in-Some.x.now) s (seen-at c.args.statements.now c.args.p c.in-Some.x.now d) ep in
    let b = the-statement ss c.args.q (view_statement c.in-Some-get.y.now) s (seen-at c.args.statements.now c.args.q c.in-Some-get.y.now e) eq in
    c.are_same.ensures.other (a ∙ sym b) (subst (λ (z : PlainStatement). IsTrue (is_condition z)) (sym a) t)

pub returns-in-None-get-clause-other : goal.returns-in-None-get-clause-other
returns-in-None-get-clause-other c = λ s ep eq t.
    let e : None ≡ slice_get c.args.statements.now c.args.q = cc (c.in-None-get.ensures) in
    absurd (not-at c.args.statements.now c.args.q s e eq)

pub returns-in-None-clause-other : goal.returns-in-None-clause-other
returns-in-None-clause-other c = λ s ep eq t.
    let e : None ≡ slice_get c.args.statements.now c.args.p = cc (c.in-None.ensures) in
    absurd (not-at c.args.statements.now c.args.p s e ep)
