use Rattle.std.proofs.Common.{◌≡◌, ◌++◌, List, sym, ap, subst, ◌∙◌}
use Rattle.std.specs.Prelude.{OnOk, flat_map}
use Rattle.souper_graph.specs.declared.ast.operands.Operand.{Operand}
use Rattle.souper_graph.specs.declared.ast.statements.Statement.{Statement}
use Rattle.souper_graph.specs.declared.ast.statements.AssignmentRhs.{AssignmentRhs}
use Rattle.souper_graph.specs.View.{view_rhs, view_statement}
use Rattle.souper_widths.specs.declared.rows.Row.{Row}
use Rattle.souper_widths.specs.Equations.{operand_equations}
use Rattle.souper_widths.specs.Table.{row_operands, operands_of_rhs, operands_in}
use Rattle.souper_widths.specs.Ties.{ties_of}
use Rattle.souper_widths.proofs.equations.push_statement_operands.Goals as goal

pub returns-in-Instruction : goal.returns-in-Instruction
returns-in-Instruction c =
    let r = c.push_row_operands-in-Instruction in
    let p = c.args.position in
    let xs : c.as_slice.result.now ≡ operands_in (view_statement c.args.statement.now) =
    c.as_slice.ensures.value ∙ c.operands-operands.ensures ∙ ap (λ (v : AssignmentRhs). operands_of_rhs (view_rhs v)) (sym c.in-Instruction.is)
    ∙ ap (λ (s : Statement). operands_in (view_statement s)) (sym c.in-Assignment.is) in
    subst (λ (z : Row). OnOk r.result (r.new.ties.items ≡ c.args.ties.now.items ++ flat_map (ties_of 0 z) (flat_map operand_equations (row_operands p z (operands_in (view_statement c.args.statement.now)))))) c.statement_row-row.ensures
    (subst (λ (z : List Operand). OnOk r.result (r.new.ties.items ≡ c.args.ties.now.items ++ flat_map (ties_of 0 c.statement_row-row.result) (flat_map operand_equations (row_operands p c.statement_row-row.result z)))) xs r.ensures)
