use Rattle.std.proofs.Common.{◌≡◌, true, false, refl, sym, ◌∙◌}
use Rattle.souper_embedding.proofs.KnownMaps.{follows-old}
use Rattle.souper_embedding.proofs.Operands.{operands-bound, operands-sound, operand-step}
use Rattle.souper_embedding.proofs.maps.bind_operands.Goals as goal

pub returns-then-not-bind_operand-clause-forced : goal.returns-then-not-bind_operand-clause-forced
returns-then-not-bind_operand-clause-forced c = λ f w e below.
    let s = operand-step f c.args.to.now c.loop-index.to c.args.xs.now c.args.ys.now c.loop-index.index c.index-xs-index.result c.index-ys-index.result c.loop-index.auto.to c.loop-index-test.true c.if-xs-ys.false c.index-xs-index.is c.index-ys-index.is e below in
    let one = c.bind_operand.ensures.forced f (c.loop-index.invariant.forced f w e below) s.0 s.1 in
    let n : true ≡ false = sym one.0 ∙ c.if-not-bind_operand.true in absurd (cc)

pub loop-index-preserved : goal.loop-index-preserved
loop-index-preserved c = record {
  bound = operands-bound c.args.to.now c.loop-index.to c.bind_operand.new.to c.args.xs.now c.loop-index.index c.index-xs-index.result c.loop-index-test.true c.index-xs-index.is
      c.loop-index.invariant.bound (c.bind_operand.ensures.bound c.if-not-bind_operand.false);
  sound = λ f w. operands-sound f c.args.xs.now c.args.ys.now c.loop-index.index c.index-xs-index.result c.index-ys-index.result c.loop-index-test.true c.if-xs-ys.false c.index-xs-index.is c.index-ys-index.is
      (c.loop-index.invariant.sound f (follows-old c.loop-index.to c.bind_operand.new.to _ f (c.bind_operand.ensures.bound c.if-not-bind_operand.false) w)) (c.bind_operand.ensures.sound c.if-not-bind_operand.false f w);
  forced = λ f w e below. (
      let s = operand-step f c.args.to.now c.loop-index.to c.args.xs.now c.args.ys.now c.loop-index.index c.index-xs-index.result c.index-ys-index.result c.loop-index.auto.to c.loop-index-test.true c.if-xs-ys.false c.index-xs-index.is c.index-ys-index.is e below in
      (c.bind_operand.ensures.forced f (c.loop-index.invariant.forced f w e below) s.0 s.1).1);
}

pub returns-clause-forced : goal.returns-clause-forced
returns-clause-forced c = λ f w e below. (refl, c.loop-index.invariant.forced f w e below)
