use Rattle.std.proofs.Common.{ℕ, sym, ap, subst, ◌∙◌}
use Rattle.souper_graph.specs.declared.ast.statements.AssignmentRhs.{AssignmentRhs}
use Rattle.souper_graph.specs.View.{view_rhs}
use Rattle.souper_meaning.specs.Instructions.{instruction_outcome}
use Rattle.souper_meaning.specs.Statements.{outcome_in, rhs_outcome}
use Rattle.souper_meaning.specs.View.{view_world}
use Rattle.souper_meaning.specs.Evaluable.{IsReadyRhs}
use Rattle.souper_meaning.proofs.statements.rhs_outcome_of.Goals as goal

pub phi_outcome_of-requires-clause-low : goal.phi_outcome_of-requires-clause-low
phi_outcome_of-requires-clause-low c =
    (subst (λ (r : AssignmentRhs). IsReadyRhs c.args.widths.result c.args.widths.operands (outcome_in c.args.done.now) (view_rhs r)) c.in-Phi.is c.requires).0

pub phi_outcome_of-requires-clause-high : goal.phi_outcome_of-requires-clause-high
phi_outcome_of-requires-clause-high c =
    (subst (λ (r : AssignmentRhs). IsReadyRhs c.args.widths.result c.args.widths.operands (outcome_in c.args.done.now) (view_rhs r)) c.in-Phi.is c.requires).1

pub instruction_outcome_of-requires : goal.instruction_outcome_of-requires
instruction_outcome_of-requires c =
    subst (λ (r : AssignmentRhs). IsReadyRhs c.args.widths.result c.args.widths.operands (outcome_in c.args.done.now) (view_rhs r)) c.in-Instruction.is c.requires

pub returns-in-Phi : goal.returns-in-Phi
returns-in-Phi c =
    c.phi_outcome_of.ensures
    ∙ ap (λ (r : AssignmentRhs). rhs_outcome c.args.widths.result c.args.widths.operands (view_world c.args.world.now) c.args.position (outcome_in c.args.done.now) (view_rhs r)) (sym c.in-Phi.is)

pub returns-in-Instruction : goal.returns-in-Instruction
returns-in-Instruction c =
    c.instruction_outcome_of.ensures
    ∙ ap (λ (k : ℕ). instruction_outcome c.args.widths.result c.args.widths.operands k (outcome_in c.args.done.now) c.in-Instruction.instruction) c.choice.ensures
    ∙ ap (λ (r : AssignmentRhs). rhs_outcome c.args.widths.result c.args.widths.operands (view_world c.args.world.now) c.args.position (outcome_in c.args.done.now) (view_rhs r)) (sym c.in-Instruction.is)
