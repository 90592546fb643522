use Rattle.std.proofs.Common.{◌≡◌, ℕ, List, Some, None, sym, ap, ◌∙◌}
use Rattle.std.specs.Prelude.{slice_get}
use Rattle.souper_graph.specs.declared.ast.statements.Statement.{Statement as StatementNode}
use Rattle.souper_graph.specs.Values.{Item}
use Rattle.souper_graph.specs.PartsView.{view_parts}
use Rattle.souper_graph.specs.Uses.{NeededIn}
use Rattle.souper_graph.proofs.Judging.Needed.{statement_at, well_formed_stands}
use Rattle.souper_widths.proofs.Marks.{viewed-at}
use Rattle.souper_widths.proofs.ClassSteps.{classes-skip}
use Rattle.souper_widths.proofs.conflicts.tie_position.Goals as goal

pub returns-then-not-is_needed-clause-ok : goal.returns-then-not-is_needed-clause-ok
returns-then-not-is_needed-clause-ok c =
    let a : Item = view_parts c.args.parts.now in
    let other : ¬ NeededIn a c.args.position = (λ n. let t = c.requires.needed.1 n in absurd (cc (t, c.if-not-is_needed.true))) in
    classes-skip a c.args.position c.args.parents.now c.args.numbers.now c.requires.before other

pub tie_statement-requires-clause-stands : goal.tie_statement-requires-clause-stands
tie_statement-requires-clause-stands c =
    let xs : List StatementNode = c.args.parts.now.statements.now in
    let s : StatementNode = c.in-Some.statement.now in
    let e : slice_get xs c.args.position ≡ Some s = ap (slice_get xs) (sym c.at.ensures) ∙ sym c.in-Some.ensures in
    viewed-at xs c.args.position (Some s) e

pub returns-in-None-clause-ok : goal.returns-in-None-clause-ok
returns-in-None-clause-ok c =
    let a : Item = view_parts c.args.parts.now in
    let p : ℕ = c.args.position in
    let xs : List StatementNode = c.args.parts.now.statements.now in
    let e : slice_get xs p ≡ None = ap (slice_get xs) (sym c.at.ensures) ∙ sym c.in-None.ensures in
    let none : slice_get a.statements p ≡ None = viewed-at xs p None e in
    let some : slice_get a.statements p ≡ Some (statement_at a.statements p) = well_formed_stands a c.requires.well_formed p (c.requires.needed.0 c.if-not-is_needed.false) in
    absurd (cc (none, some))
