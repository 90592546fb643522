use Rattle.souper_ir.specs.Laws.RightSides.{block_rule}
use Rattle.souper_ir.specs.Laws.FromReadings.{parsed}
use Rattle.souper_errors.specs.Errors.{widened}
use Rattle.souper_ir.proofs.parse.rhs.BlockParse.parse.Goals as goal

pub returns : goal.returns
returns c =
    let k = parsed block_rule (λ b. b) (widened c.block.result) c.args.parser.now c.block.new.parser c.block.ensures in
    rw c.widen.ensures (record { ok = k.0; err = k.1 })
