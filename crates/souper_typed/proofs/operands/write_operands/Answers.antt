use Rattle.std.proofs.Common.{◌∙◌, arith}
use Rattle.souper_graph.proofs.Replacing.{mapped-next, mapped-all}
use Rattle.souper_typed.specs.Written.{written_operand}
use Rattle.souper_typed.proofs.operands.write_operands.Goals as goal

pub loop-operand-preserved : goal.loop-operand-preserved
loop-operand-preserved c =
    mapped-next (written_operand c.args.form c.args.width) c.args.operands.now c.loop-operand.operands c.loop-operand.operand-index c.operand-item.result c.write_operand.result
    c.loop-operand.invariant (omega (arith, c.loop-operand-test.true, c.loop-operand.auto.operands)) c.write_operand.ensures

pub returns : goal.returns
returns c = c.loop-operand.invariant ∙ mapped-all (written_operand c.args.form c.args.width) c.args.operands.now c.loop-operand.operand-index (omega (arith, c.loop-operand-test.false))
