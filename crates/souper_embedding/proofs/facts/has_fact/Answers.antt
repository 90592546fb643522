use Rattle.std.proofs.Common.{◌≡◌, map, true, false, refl, sym, ◌∙◌, subst, arith, inl, inr}
use Rattle.souper_graph.specs.Uses.{Has}
use Rattle.souper_graph.specs.View.{view_attribute}
use Rattle.souper_embedding.proofs.Listed.{has-item, more-cases}
use Rattle.souper_embedding.proofs.facts.has_fact.Goals as goal

pub returns-then-same_attribute : goal.returns-then-same_attribute
returns-then-same_attribute c =
    let x = c.other-item.result in
    let e : view_attribute x ≡ view_attribute c.args.fact.now = c.same_attribute.ensures.0 c.if-same_attribute.true in
    ((λ t. subst (λ z. Has (map view_attribute c.args.given.now) z) e (has-item view_attribute c.args.given.now c.loop-other.other-index x (omega arith) c.other-item.is)), (λ h. refl))

pub loop-other-preserved : goal.loop-other-preserved
loop-other-preserved c = λ h.
    elim (more-cases view_attribute c.args.given.now c.loop-other.other-index c.other-item.result (view_attribute c.args.fact.now) (omega arith) c.other-item.is h) [
      | inl a ↦ c.loop-other.invariant a
      | inr e ↦ (let t = c.same_attribute.ensures.1 e in let n : true ≡ false = sym t ∙ c.if-same_attribute.false in absurd (cc))
    ]
