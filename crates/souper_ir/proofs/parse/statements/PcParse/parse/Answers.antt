use Rattle.souper_ir.specs.Laws.Statements.{pc_rule}
use Rattle.souper_ir.specs.Laws.FromReadings.{parsed}
use Rattle.souper_errors.specs.Errors.{widened}
use Rattle.souper_ir.proofs.parse.statements.PcParse.parse.Goals as goal

pub returns : goal.returns
returns c =
    let k = parsed pc_rule (λ p. p) (widened c.pc.result) c.args.parser.now c.pc.new.parser c.pc.ensures in
    rw c.widen.ensures (record { ok = k.0; err = k.1 })
