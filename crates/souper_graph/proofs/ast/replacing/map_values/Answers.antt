use Rattle.std.proofs.Common.{◌∙◌, arith}
use Rattle.souper_graph.proofs.Replacing.{mapped-next, mapped-all}
use Rattle.souper_graph.proofs.ast.replacing.map_values.Goals as goal

pub loop-value-preserved : goal.loop-value-preserved
loop-value-preserved g c = (
  c.requires,
  λ h computes. mapped-next h c.args.values.now c.loop-value.values c.loop-value.value-index c.value-item.result c.f.result
      (c.loop-value.invariant.1 h computes) (omega (arith, c.loop-value-test.true, c.loop-value.auto.values)) (computes _ _ c.f.ensures),
)

pub returns : goal.returns
returns g c = λ h computes. c.loop-value.invariant.1 h computes ∙ mapped-all h c.args.values.now c.loop-value.value-index (omega (arith, c.loop-value-test.false))
