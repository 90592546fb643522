use Rattle.souper_graph.specs.View.{view_phi}
use Rattle.souper_ir.specs.Laws.RightSides.{phi_rule}
use Rattle.souper_ir.specs.Laws.FromReadings.{parsed}
use Rattle.souper_errors.specs.Errors.{widened}
use Rattle.souper_ir.proofs.parse.rhs.PhiParse.parse.Goals as goal

pub returns : goal.returns
returns c =
    let k = parsed phi_rule view_phi (widened c.phi.result) c.args.parser.now c.phi.new.parser c.phi.ensures in
    rw c.widen.ensures (record { ok = k.0; err = k.1 })
