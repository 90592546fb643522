use Rattle.std.proofs.Common.{◌≡◌, ℕ, ◌+◌, ◌*◌, List, map, get_or, Some, None, sym, ap, ◌∙◌}
use Rattle.std.specs.Prelude.{slice_get}
use Rattle.souper_graph.specs.declared.ast.statements.Statement.{Statement as StatementNode}
use Rattle.souper_graph.specs.View.{view_statement}
use Rattle.souper_widths.specs.declared.rows.Row.{Row}
use Rattle.souper_widths.specs.Ties.{shown_result, shown_operands}
use Rattle.souper_widths.specs.Nodes.{row_at}
use Rattle.souper_widths.proofs.Untold.{row-viewed, if-needed}
use Rattle.souper_widths.proofs.item_widths.widths_at.Goals as goal

pub returns-in-Some-clause-own : goal.returns-in-Some-clause-own
returns-in-Some-clause-own c =
    let xs : List StatementNode = c.args.statements.now in
    let s : StatementNode = c.in-Some.statement.now in
    let p : ℕ = c.args.position in
    let e : slice_get xs p ≡ Some s = ap (slice_get xs) (sym c.at.ensures) ∙ sym c.in-Some.ensures in
    let row : c.statement_row-row.result ≡ row_at (map view_statement xs) p = c.statement_row-row.ensures ∙ sym (row-viewed xs p (Some s) e) in
    if-needed c.args.is_needed _ _ c.if-not-is_needed.false (c.result_by.ensures ∙ ap (λ (r : Row). shown_result r (get_or c.args.nodes.now (2 * p) 0)) row)

pub returns-in-Some-clause-used : goal.returns-in-Some-clause-used
returns-in-Some-clause-used c =
    let xs : List StatementNode = c.args.statements.now in
    let s : StatementNode = c.in-Some.statement.now in
    let p : ℕ = c.args.position in
    let e : slice_get xs p ≡ Some s = ap (slice_get xs) (sym c.at.ensures) ∙ sym c.in-Some.ensures in
    let row : c.statement_row-row.result ≡ row_at (map view_statement xs) p = c.statement_row-row.ensures ∙ sym (row-viewed xs p (Some s) e) in
    if-needed c.args.is_needed _ _ c.if-not-is_needed.false (c.operands_by.ensures ∙ ap (λ (r : Row). shown_operands r (get_or c.args.nodes.now (2 * p + 1) 0)) row)

pub returns-in-None-clause-own : goal.returns-in-None-clause-own
returns-in-None-clause-own c =
    let xs : List StatementNode = c.args.statements.now in
    let p : ℕ = c.args.position in
    let e : slice_get xs p ≡ None = ap (slice_get xs) (sym c.at.ensures) ∙ sym c.in-None.ensures in
    if-needed c.args.is_needed _ _ c.if-not-is_needed.false (ap (λ (r : Row). shown_result r (get_or c.args.nodes.now (2 * p) 0)) (sym (row-viewed xs p None e)))

pub returns-in-None-clause-used : goal.returns-in-None-clause-used
returns-in-None-clause-used c =
    let xs : List StatementNode = c.args.statements.now in
    let p : ℕ = c.args.position in
    let e : slice_get xs p ≡ None = ap (slice_get xs) (sym c.at.ensures) ∙ sym c.in-None.ensures in
    if-needed c.args.is_needed _ _ c.if-not-is_needed.false (ap (λ (r : Row). shown_operands r (get_or c.args.nodes.now (2 * p + 1) 0)) (sym (row-viewed xs p None e)))
