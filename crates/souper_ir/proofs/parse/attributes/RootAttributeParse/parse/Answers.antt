use Rattle.souper_graph.specs.View.{view_root_attribute}
use Rattle.souper_ir.specs.Laws.Attributes.{root_attribute_rule}
use Rattle.souper_ir.specs.Laws.FromReadings.{parsed}
use Rattle.souper_errors.specs.Errors.{widened}
use Rattle.souper_ir.proofs.parse.attributes.RootAttributeParse.parse.Goals as goal

pub returns : goal.returns
returns c =
    let k = parsed root_attribute_rule view_root_attribute (widened c.root_attribute.result) c.args.parser.now c.root_attribute.new.parser c.root_attribute.ensures in
    rw c.widen.ensures (record { ok = k.0; err = k.1 })
