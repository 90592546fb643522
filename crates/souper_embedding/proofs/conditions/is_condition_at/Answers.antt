use Rattle.std.proofs.Common.{◌≡◌, Some, None, sym, ap, ◌∙◌}
use Rattle.std.specs.Prelude.{map, slice_get}
use Rattle.souper_graph.specs.Uses.{is_condition}
use Rattle.souper_graph.specs.View.{view_statement}
use Rattle.souper_embedding.proofs.Assignments.{seen-at, not-at, the-statement}
use Rattle.souper_embedding.proofs.conditions.is_condition_at.Goals as goal

pub returns-in-Some-clause-test : goal.returns-in-Some-clause-test
returns-in-Some-clause-test c = λ s e.
    let d : Some c.in-Some.statement.now ≡ slice_get c.args.statements.now c.args.index = cc (c.in-Some.ensures) in
    let same = the-statement (map view_statement c.args.statements.now) c.args.index (view_statement c.in-Some.statement.now) s (seen-at c.args.statements.now c.args.index c.in-Some.statement.now d) e in
    c.is_path_condition.ensures ∙ ap is_condition same

pub returns-in-Some-clause-there : goal.returns-in-Some-clause-there
returns-in-Some-clause-there c = λ t.
    let d : Some c.in-Some.statement.now ≡ slice_get c.args.statements.now c.args.index = cc (c.in-Some.ensures) in
    (view_statement c.in-Some.statement.now, seen-at c.args.statements.now c.args.index c.in-Some.statement.now d, sym c.is_path_condition.ensures ∙ t)

pub returns-in-None-clause-test : goal.returns-in-None-clause-test
returns-in-None-clause-test c = λ s e.
    let d : None ≡ slice_get c.args.statements.now c.args.index = cc (c.in-None.ensures) in
    absurd (not-at c.args.statements.now c.args.index s d e)
