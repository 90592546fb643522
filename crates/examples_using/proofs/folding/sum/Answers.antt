use Rattle.std.proofs.Common.{◌≡◌, ap, rules}
use Rattle.souper_graph.specs.declared.ast.instructions.Instruction.TheVariants.{Add}
use Rattle.souper_graph.specs.declared.ast.operands.Operand.TheVariants.{Constant as constant_variant}
use Rattle.souper_graph.specs.declared.ast.statements.AssignmentRhs.TheVariants.{Instruction as instruction_variant}
use Rattle.souper_graph.specs.View.{view_rhs}
use Rattle.examples_using.proofs.Wrapping.{no-sum}
use Rattle.examples_using.proofs.folding.sum.Goals as goal

pub returns-clause-none : goal.returns-clause-none
returns-clause-none c =
    let arm = c.in-Instruction-Add-Constant-Constant in
    let e : c.args.rhs.now ≡ instruction_variant (Add (constant_variant arm.a) (constant_variant arm.b)) = search rules in
    no-sum c.wrapped_sum.result (view_rhs c.args.rhs.now) arm.a arm.b (ap view_rhs e) c.wrapped_sum.ensures.none
