use Rattle.souper_ir.specs.Laws.Operands.{operand_rule}
use Rattle.souper_ir.specs.Laws.FromReadings.{parsed}
use Rattle.souper_errors.specs.Errors.{widened}
use Rattle.souper_ir.proofs.parse.operands.OperandParse.parse.Goals as goal

pub returns : goal.returns
returns c =
    let k = parsed operand_rule (λ x. x) (widened c.operand.result) c.args.parser.now c.operand.new.parser c.operand.ensures in
    rw c.widen.ensures (record { ok = k.0; err = k.1 })
