use Rattle.souper_ir.specs.Laws.Operands.{constant_rule}
use Rattle.souper_ir.specs.Laws.FromReadings.{parsed}
use Rattle.souper_errors.specs.Errors.{widened}
use Rattle.souper_ir.proofs.parse.operands.ConstantParse.parse.Goals as goal

pub returns : goal.returns
returns c =
    let k = parsed constant_rule (λ c. c) (widened c.constant.result) c.args.parser.now c.constant.new.parser c.constant.ensures in
    rw c.widen.ensures (record { ok = k.0; err = k.1 })
