use Rattle.std.proofs.Common.{◌≡◌, [], ◌∷◌, length, map, true, false, refl, sym, ap, ◌∙◌, subst, inl, inr}
use Rattle.souper_graph.specs.Uses.{Has, position_of, uses_of_operands}
use Rattle.souper_graph.specs.Sameness.{carried_operand}
use Rattle.souper_embedding.specs.Maps.{Binds, AreBelow}
use Rattle.souper_embedding.proofs.KnownMaps.{binds-both}
use Rattle.souper_embedding.proofs.Operands.{below-after}
use Rattle.souper_embedding.proofs.maps.bind_phi.Goals as goal

pub returns-then-bind_block-clause-bound : goal.returns-then-bind_block-clause-bound
returns-then-bind_block-clause-bound c = λ t.
    binds-both c.args.to.now c.bind_block.new.to c.bind_operands.new.to (c.args.x.now.block ∷ []) (map position_of (uses_of_operands c.args.x.now.values.items)) (c.bind_block.ensures.bound c.if-bind_block.true)
    (subst (λ z. Binds c.bind_block.new.to c.bind_operands.new.to (map position_of (uses_of_operands z))) c.deref.ensures.value (c.bind_operands.ensures.bound t))

pub returns-then-bind_block-clause-forced : goal.returns-then-bind_block-clause-forced
returns-then-bind_block-clause-forced c = λ f w eb ev below.
    let one = c.bind_block.ensures.forced f w (sym eb) (below c.args.x.now.block (inl refl)) in
    let rest : AreBelow (length c.args.to.now) (map position_of (uses_of_operands c.deref.result.now)) = λ p m. below p (inr (subst (λ z. Has (map position_of (uses_of_operands z)) p) c.deref.ensures.value m)) in
    c.bind_operands.ensures.forced f one.1 (c.deref-then-bind_block.ensures.value ∙ ev ∙ ap (map (carried_operand f)) (sym c.deref.ensures.value))
    (below-after c.args.to.now c.bind_block.new.to (c.args.x.now.block ∷ []) (map position_of (uses_of_operands c.deref.result.now)) (c.bind_block.ensures.bound c.if-bind_block.true) rest)

pub returns-else-bind_block-clause-forced : goal.returns-else-bind_block-clause-forced
returns-else-bind_block-clause-forced c = λ f w eb ev below.
    let one = c.bind_block.ensures.forced f w (sym eb) (below c.args.x.now.block (inl refl)) in
    let n : true ≡ false = sym one.0 ∙ c.if-bind_block.false in absurd (cc)
