use Rattle.std.proofs.Common.{◌^◌, ◌<◌, subst, arith}
use Rattle.souper_graph.specs.declared.ast.statements.AssignmentRhs.{AssignmentRhs}
use Rattle.souper_graph.specs.View.{view_rhs}
use Rattle.souper_meaning.specs.Stepping.{AllowsRhsDigit}
use Rattle.souper_meaning.proofs.stepping.put_rhs.Goals as goal

pub overflow_cast-digit : goal.overflow_cast-digit
overflow_cast-digit c =
    let h : c.args.digit < 2 ^ 32 = subst (λ (r : AssignmentRhs). AllowsRhsDigit c.args.digit (view_rhs r)) c.in-Block.is c.requires.digit in
    omega (arith, h)
