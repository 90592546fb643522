use Rattle.std.proofs.Common.{◌≡◌, length, true, false, sym, ◌∙◌}
use Rattle.souper_graph.specs.Uses.{uses_of_operand}
use Rattle.souper_embedding.proofs.Operands.{both-bound, below-left, below-right, below-after, pc-parts}
use Rattle.souper_embedding.proofs.conditions.bind_pc.Goals as goal

pub returns-then-bind_operand-clause-bound : goal.returns-then-bind_operand-clause-bound
returns-then-bind_operand-clause-bound c = λ e.
    both-bound c.args.to.now c.bind_operand.new.to c.bind_operand-then-bind_operand.new.to (uses_of_operand c.args.x.x) (uses_of_operand c.args.x.y)
    (c.bind_operand.ensures.bound c.if-bind_operand.true) (c.bind_operand-then-bind_operand.ensures.bound e)

pub returns-then-bind_operand-clause-forced : goal.returns-then-bind_operand-clause-forced
returns-then-bind_operand-clause-forced c = λ f w e below.
    let p = pc-parts f c.args.x c.args.y e in
    let one = c.bind_operand.ensures.forced f w p.0 (below-left (length c.args.to.now) (uses_of_operand c.args.x.x) (uses_of_operand c.args.x.y) below) in
    c.bind_operand-then-bind_operand.ensures.forced f one.1 p.1
    (below-after c.args.to.now c.bind_operand.new.to _ _ (c.bind_operand.ensures.bound c.if-bind_operand.true) (below-right (length c.args.to.now) (uses_of_operand c.args.x.x) (uses_of_operand c.args.x.y) below))

pub returns-else-bind_operand-clause-forced : goal.returns-else-bind_operand-clause-forced
returns-else-bind_operand-clause-forced c = λ f w e below.
    let p = pc-parts f c.args.x c.args.y e in
    let one = c.bind_operand.ensures.forced f w p.0 (below-left (length c.args.to.now) (uses_of_operand c.args.x.x) (uses_of_operand c.args.x.y) below) in
    let n : true ≡ false = sym one.0 ∙ c.if-bind_operand.false in absurd (cc)
