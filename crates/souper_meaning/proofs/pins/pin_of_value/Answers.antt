use Rattle.std.proofs.Common.{◌≡◌, ℕ, ℤ, List, Some, None, sym, ap, ◌∙◌}
use Rattle.std.specs.Prelude.{slice_get}
use Rattle.std.specs.Int.{w128}
use Rattle.std.proofs.lemmas.Int.{to_z-of_z}
use Rattle.souper_graph.specs.declared.ast.statements.Statement.{Statement as StatementNode}
use Rattle.souper_graph.specs.View.{view_statement}
use Rattle.souper_graph.specs.PartsView.{view_parts}
use Rattle.souper_widths.specs.View.{view_widths}
use Rattle.souper_meaning.specs.Pins.{pin_of_statement}
use Rattle.souper_meaning.proofs.Walked.{viewed}
use Rattle.souper_meaning.proofs.pins.pin_of_value.Goals as goal

pub returns-in-Some : goal.returns-in-Some
returns-in-Some c =
    let xs : List StatementNode = c.args.parts.now.statements.now in
    let s : StatementNode = c.in-Some.statement.now in
    let p : ℕ = c.args.position in
    let e : slice_get (view_parts c.args.parts.now).statements p ≡ Some (view_statement s) = viewed xs p (Some s) (ap (slice_get xs) (sym c.at.ensures) ∙ sym c.in-Some.ensures) in
    c.pin_of_assigned.ensures
    ∙ ap (λ (k : ℤ). pin_of_statement (view_widths c.args.plan.now.widths) p k (Some (view_statement s))) (to_z-of_z w128 c.args.wanted c.ranges.wanted)
    ∙ ap (pin_of_statement (view_widths c.args.plan.now.widths) p c.args.wanted) (sym e)

pub returns-in-None : goal.returns-in-None
returns-in-None c =
    let xs : List StatementNode = c.args.parts.now.statements.now in
    let p : ℕ = c.args.position in
    let e : slice_get (view_parts c.args.parts.now).statements p ≡ None = viewed xs p None (ap (slice_get xs) (sym c.at.ensures) ∙ sym c.in-None.ensures) in
    ap (pin_of_statement (view_widths c.args.plan.now.widths) p c.args.wanted) (sym e)
