use Rattle.std.proofs.Common.{◌≡◌, ◌++◌, [], ◌∷◌, map, true, false, refl, sym, ◌∙◌, inl, inr}
use Rattle.souper_graph.specs.Values.{condition}
use Rattle.souper_graph.specs.Sameness.{carried}
use Rattle.souper_graph.specs.Uses.{position_of, uses_of_operand}
use Rattle.souper_embedding.proofs.KnownMaps.{binds-both}
use Rattle.souper_embedding.proofs.Operands.{below-after, pc-parts, block-pc-parts, block-pc-from}
use Rattle.souper_embedding.proofs.conditions.bind_block_pc.Goals as goal

pub returns-then-bind_block-clause-bound : goal.returns-then-bind_block-clause-bound
returns-then-bind_block-clause-bound c = λ t.
    binds-both c.args.to.now c.bind_block.new.to c.bind_pc.new.to (c.args.x.block ∷ []) (map position_of (uses_of_operand c.args.x.x ++ uses_of_operand c.args.x.y)) (c.bind_block.ensures.bound c.if-bind_block.true) (c.bind_pc.ensures.bound t)

pub returns-then-bind_block-clause-sound : goal.returns-then-bind_block-clause-sound
returns-then-bind_block-clause-sound c = λ t f w same.
    let at = (c.bind_pc.ensures.bound t).kept c.args.x.block c.args.y.block (c.bind_block.ensures.goes c.if-bind_block.true) in
    let p = pc-parts f (record { x = c.args.x.x; y = c.args.x.y }) (record { x = c.args.y.x; y = c.args.y.y }) (c.bind_pc.ensures.sound t f w) in
    block-pc-from f c.args.x c.args.y (sym (w c.args.x.block c.args.y.block at)) (sym same) p.0 p.1

pub returns-then-bind_block-clause-forced : goal.returns-then-bind_block-clause-forced
returns-then-bind_block-clause-forced c = λ f w e below.
    let p = block-pc-parts f c.args.x c.args.y e in
    let one = c.bind_block.ensures.forced f w (sym p.block) (below c.args.x.block (inl refl)) in
    let pair : condition (record { x = c.args.y.x; y = c.args.y.y }) ≡ carried f (condition (record { x = c.args.x.x; y = c.args.x.y })) = λ j. condition (record { x = p.x_is j; y = p.y_is j }) in
    c.bind_pc.ensures.forced f one.1 pair
    (below-after c.args.to.now c.bind_block.new.to (c.args.x.block ∷ []) (map position_of (uses_of_operand c.args.x.x ++ uses_of_operand c.args.x.y)) (c.bind_block.ensures.bound c.if-bind_block.true) (λ n m. below n (inr m)))

pub returns-else-bind_block-clause-forced : goal.returns-else-bind_block-clause-forced
returns-else-bind_block-clause-forced c = λ f w e below.
    let p = block-pc-parts f c.args.x c.args.y e in
    let one = c.bind_block.ensures.forced f w (sym p.block) (below c.args.x.block (inl refl)) in
    let n : true ≡ false = sym one.0 ∙ c.if-bind_block.false in absurd (cc)
