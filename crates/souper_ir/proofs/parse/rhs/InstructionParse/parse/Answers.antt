use Rattle.souper_ir.specs.Laws.RightSides.{instruction_rule}
use Rattle.souper_ir.specs.Laws.FromReadings.{parsed}
use Rattle.souper_errors.specs.Errors.{widened}
use Rattle.souper_ir.proofs.parse.rhs.InstructionParse.parse.Goals as goal

pub returns : goal.returns
returns c =
    let k = parsed instruction_rule (λ i. i) (widened c.instruction.result) c.args.parser.now c.instruction.new.parser c.instruction.ensures in
    rw c.widen.ensures (record { ok = k.0; err = k.1 })
