use Rattle.souper_graph.specs.View.{view_attribute}
use Rattle.souper_ir.specs.Laws.Attributes.{attribute_rule}
use Rattle.souper_ir.specs.Laws.FromReadings.{parsed}
use Rattle.souper_errors.specs.Errors.{widened}
use Rattle.souper_ir.proofs.parse.attributes.AttributeParse.parse.Goals as goal

pub returns : goal.returns
returns c =
    let k = parsed attribute_rule view_attribute (widened c.attribute.result) c.args.parser.now c.attribute.new.parser c.attribute.ensures in
    rw c.widen.ensures (record { ok = k.0; err = k.1 })
