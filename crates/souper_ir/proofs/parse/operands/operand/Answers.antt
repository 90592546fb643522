use Rattle.souper_errors.specs.Errors.{widened}
use Rattle.souper_ir.specs.NodeReadings.{operand_at}
use Rattle.souper_ir.specs.Parsing.{Parsing}
use Rattle.souper_ir.specs.Reading.{Gives}
use Rattle.std.proofs.Common.{subst}
use Rattle.souper_ir.proofs.Nodes.Ahead.{int_operand}
use Rattle.souper_ir.proofs.parse.operands.operand.Goals as goal

pub returns-then-int_comes : goal.returns-then-int_comes
returns-then-int_comes c =
    subst (λ (p : Parsing). Gives (λ x. x) (widened c.constant_operand.result) (operand_at p) p c.constant_operand.new.parser) c.in_default.ensures.kept
    (int_operand (widened c.constant_operand.result) c.take_name.new.self c.constant_operand.new.parser (c.int_comes.ensures c.if-int_comes.true) c.constant_operand.ensures)
