use Rattle.std.proofs.Common.{inl, inr, ap}
use Rattle.souper_graph.specs.declared.ast.statements.AssignmentRhs.{AssignmentRhs}
use Rattle.souper_graph.specs.View.{view_rhs}
use Rattle.souper_widths.specs.declared.rows.Row.TheVariants.{Input, Block}
use Rattle.souper_widths.specs.Table.{rhs_row, operands_of_rhs}
use Rattle.souper_widths.proofs.ForwardRows.{without-operands}
use Rattle.souper_widths.proofs.forward.rhs_widths.Goals as goal

pub returns-in-Block : goal.returns-in-Block
returns-in-Block c = without-operands Block c.args.results.now c.args.ty (rhs_row (view_rhs c.args.rhs.now)) (operands_of_rhs (view_rhs c.args.rhs.now)) c.block_widths.result
    (ap (λ (v : AssignmentRhs). rhs_row (view_rhs v)) c.in-Block.is) (ap (λ (v : AssignmentRhs). operands_of_rhs (view_rhs v)) c.in-Block.is) c.block_widths.ensures

pub returns-in-Var : goal.returns-in-Var
returns-in-Var c =
    let no_operands = without-operands Input c.args.results.now c.args.ty (rhs_row (view_rhs c.args.rhs.now)) (operands_of_rhs (view_rhs c.args.rhs.now)) c.input_widths.result in
    elim c.in-Var.is [
      | inl e ↦ no_operands (ap (λ (v : AssignmentRhs). rhs_row (view_rhs v)) e) (ap (λ (v : AssignmentRhs). operands_of_rhs (view_rhs v)) e) c.input_widths.ensures
      | inr f ↦ elim f [
        | inl e ↦ no_operands (ap (λ (v : AssignmentRhs). rhs_row (view_rhs v)) e) (ap (λ (v : AssignmentRhs). operands_of_rhs (view_rhs v)) e) c.input_widths.ensures
        | inr e ↦ no_operands (ap (λ (v : AssignmentRhs). rhs_row (view_rhs v)) e) (ap (λ (v : AssignmentRhs). operands_of_rhs (view_rhs v)) e) c.input_widths.ensures
      ]
    ]
