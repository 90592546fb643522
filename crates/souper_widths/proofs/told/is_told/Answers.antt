use Rattle.std.proofs.Common.{◌≡◌, ℕ, ◌+◌, ◌*◌, List, map, get_or, Some, None, refl, sym, ap, subst, ◌∙◌}
use Rattle.std.specs.Prelude.{slice_get}
use Rattle.souper_graph.specs.declared.ast.statements.Statement.{Statement as StatementNode}
use Rattle.souper_graph.specs.View.{view_statement}
use Rattle.souper_widths.specs.declared.rows.Row.{Row}
use Rattle.souper_widths.specs.Nodes.{row_at}
use Rattle.souper_widths.specs.Told.{IsToldRow}
use Rattle.souper_widths.proofs.Untold.{row-viewed, bad-told}
use Rattle.souper_widths.proofs.told.is_told.Goals as goal

pub returns-in-Some : goal.returns-in-Some
returns-in-Some c =
    let xs : List StatementNode = c.args.statements.now in
    let s : StatementNode = c.in-Some.statement.now in
    let p : ℕ = c.args.position in
    let x : ℕ = get_or c.args.nodes.now (2 * p) 0 in
    let y : ℕ = get_or c.args.nodes.now (2 * p + 1) 0 in
    let e : slice_get xs p ≡ Some s = ap (slice_get xs) (sym c.at.ensures) ∙ sym c.in-Some.ensures in
    let row : row_at (map view_statement xs) p ≡ c.statement_row-row.result = row-viewed xs p (Some s) e ∙ sym c.statement_row-row.ensures in (
      (λ t _. subst (λ (r : Row). IsToldRow r x y) (sym row) (c.is_told_row.ensures.0 t)),
      (λ f. c.is_told_row.ensures.1 (subst (λ (r : Row). IsToldRow r x y) row (f c.if-not-is_needed.false))),
    )

pub returns-in-None : goal.returns-in-None
returns-in-None c =
    let xs : List StatementNode = c.args.statements.now in
    let p : ℕ = c.args.position in
    let e : slice_get xs p ≡ None = ap (slice_get xs) (sym c.at.ensures) ∙ sym c.in-None.ensures in (
      (λ t _. bad-told (row_at (map view_statement xs) p) (get_or c.args.nodes.now (2 * p) 0) (get_or c.args.nodes.now (2 * p + 1) 0) (row-viewed xs p None e)),
      (λ f. refl),
    )
