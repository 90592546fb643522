use Rattle.std.proofs.Common.{◌≡◌, [], ◌∷◌, map, true, false, refl, sym, ◌∙◌, subst, arith, inl, inr}
use Rattle.souper_graph.specs.Uses.{Has}
use Rattle.souper_graph.specs.Values.{demanded_bits}
use Rattle.souper_graph.specs.View.{view_root_attribute}
use Rattle.souper_embedding.specs.Embedding.{IsUnwanted}
use Rattle.souper_embedding.proofs.Listed.{has-item, more-cases}
use Rattle.souper_embedding.proofs.facts.is_unwanted.Goals as goal

pub returns-then-is_unwanted_by : goal.returns-then-is_unwanted_by
returns-then-is_unwanted_by c =
    let x = c.attribute-item.result in
    let u : IsUnwanted (view_root_attribute x ∷ []) c.args.index = c.is_unwanted_by.ensures.0 c.if-is_unwanted_by.true in
    let all = has-item view_root_attribute c.args.attributes.now c.loop-attribute.attribute-index x (omega arith) c.attribute-item.is in
    ((λ t. (u.0, elim u.1 [ inl e ↦ subst (λ z. Has (map view_root_attribute c.args.attributes.now) z) e all | inr n ↦ absurd n ], u.2)), (λ h. refl))

pub loop-attribute-preserved : goal.loop-attribute-preserved
loop-attribute-preserved c = λ u.
    elim (more-cases view_root_attribute c.args.attributes.now c.loop-attribute.attribute-index c.attribute-item.result (demanded_bits u.0) (omega arith) c.attribute-item.is u.1) [
      | inl a ↦ c.loop-attribute.invariant (u.0, a, u.2)
      | inr e ↦ (let t = c.is_unwanted_by.ensures.1 (u.0, inl e, u.2) in let n : true ≡ false = sym t ∙ c.if-is_unwanted_by.false in absurd (cc))
    ]
