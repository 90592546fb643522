use Rattle.std.proofs.Common.{◌≡◌, List, map, Some, None, sym, ap, ◌∙◌}
use Rattle.std.specs.Prelude.{slice_get}
use Rattle.souper_graph.specs.declared.ast.statements.Statement.{Statement as StatementNode}
use Rattle.souper_graph.specs.View.{view_statement}
use Rattle.souper_widths.proofs.Marks.{viewed-at, some-shape, none-shape}
use Rattle.souper_widths.proofs.places.shape_at.Goals as goal

pub returns-in-Some : goal.returns-in-Some
returns-in-Some c =
    let xs : List StatementNode = c.args.statements.now in
    let s : StatementNode = c.in-Some.statement.now in
    let e : slice_get xs c.args.position ≡ Some s = ap (slice_get xs) (sym c.at.ensures) ∙ sym c.in-Some.ensures in
    some-shape (map view_statement xs) (slice_get (map view_statement xs) c.args.position) (view_statement s) c.args.is_needed c.shape_reason.result
    (viewed-at xs c.args.position (Some s) e) c.if-not-is_needed.false c.shape_reason.ensures

pub returns-in-None : goal.returns-in-None
returns-in-None c =
    let xs : List StatementNode = c.args.statements.now in
    let e : slice_get xs c.args.position ≡ None = ap (slice_get xs) (sym c.at.ensures) ∙ sym c.in-None.ensures in
    (λ _. none-shape (map view_statement xs) (slice_get (map view_statement xs) c.args.position) (viewed-at xs c.args.position None e))
