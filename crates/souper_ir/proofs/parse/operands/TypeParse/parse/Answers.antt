use Rattle.souper_ir.specs.Laws.Operands.{type_rule}
use Rattle.souper_ir.specs.Laws.FromReadings.{parsed}
use Rattle.souper_errors.specs.Errors.{widened}
use Rattle.souper_ir.proofs.parse.operands.TypeParse.parse.Goals as goal

pub returns : goal.returns
returns c =
    let k = parsed type_rule (λ t. t) (widened c.type_alone.result) c.args.parser.now c.type_alone.new.parser c.type_alone.ensures in
    rw c.widen.ensures (record { ok = k.0; err = k.1 })
