use Rattle.std.proofs.Common.{◌<◌, map, length, arith}
use Rattle.std.proofs.lemmas.List.{length-map}
use Rattle.souper_graph.specs.View.{view_attribute}
use Rattle.souper_typed.specs.Written.{written_attribute}
use Rattle.souper_typed.proofs.Loops.{attribute-next}
use Rattle.souper_typed.proofs.statements.write_attributes.Goals as goal

pub loop-attribute-preserved : goal.loop-attribute-preserved
loop-attribute-preserved c =
    let xs = map view_attribute c.args.attributes.now in
    let i = c.loop-attribute.attribute-index in
    let long = length-map c.args.attributes.now view_attribute in
    let within : i < length xs = omega (arith, long, c.loop-attribute-test.true, c.loop-attribute.auto.attributes) in
    attribute-next (written_attribute c.args.form c.args.width) xs c.loop-attribute.attributes i c.attribute-item.result c.write_attribute.new.attribute c.loop-attribute.invariant within c.write_attribute.ensures
