use Rattle.souper_graph.specs.View.{view_rhs}
use Rattle.souper_ir.specs.Laws.RightSides.{rhs_rule}
use Rattle.souper_ir.specs.Laws.FromReadings.{parsed}
use Rattle.souper_errors.specs.Errors.{widened}
use Rattle.souper_ir.proofs.parse.rhs.AssignmentRhsParse.parse.Goals as goal

pub returns : goal.returns
returns c =
    let k = parsed rhs_rule view_rhs (widened c.rhs.result) c.args.parser.now c.rhs.new.parser c.rhs.ensures in
    rw c.widen.ensures (record { ok = k.0; err = k.1 })
