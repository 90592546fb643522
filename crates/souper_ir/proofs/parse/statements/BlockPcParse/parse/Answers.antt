use Rattle.souper_ir.specs.Laws.Statements.{block_pc_rule}
use Rattle.souper_ir.specs.Laws.FromReadings.{parsed}
use Rattle.souper_errors.specs.Errors.{widened}
use Rattle.souper_ir.proofs.parse.statements.BlockPcParse.parse.Goals as goal

pub returns : goal.returns
returns c =
    let k = parsed block_pc_rule (λ p. p) (widened c.block_pc.result) c.args.parser.now c.block_pc.new.parser c.block_pc.ensures in
    rw c.widen.ensures (record { ok = k.0; err = k.1 })
