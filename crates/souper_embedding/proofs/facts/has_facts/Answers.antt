use Rattle.std.proofs.Common.{◌≡◌, map, true, false, sym, ◌∙◌, subst, inl, inr}
use Rattle.souper_graph.specs.Uses.{Has}
use Rattle.souper_graph.specs.View.{view_attribute}
use Rattle.souper_embedding.proofs.Listed.{has-item, more-cases}
use Rattle.souper_embedding.proofs.facts.has_facts.Goals as goal
use Rattle.souper_embedding.proofs.facts.has_facts.Goals.{else-not-is_no_fact-via-then-not-is_no_fact+else-not-has_fact, else-not-is_no_fact-via-else-not-is_no_fact}

pub returns-then-not-has_fact : goal.returns-then-not-has_fact
returns-then-not-has_fact c = (
  (λ t. absurd (let z : false ≡ true = t in cc)),
  (λ h. (
      let x = c.fact-item.result in
      let t = c.has_fact.ensures.1 (h (view_attribute x) (has-item view_attribute c.args.wanted.now c.loop-fact.fact-index x c.loop-fact-test.true c.fact-item.is)
      (λ e. let t = c.is_no_fact.ensures.1 e in let n : true ≡ false = sym t ∙ c.if-not-is_no_fact.true in absurd (cc))) in
      let n : true ≡ false = sym t ∙ c.if-not-has_fact.true in absurd (cc))),
)

pub loop-fact-preserved : goal.loop-fact-preserved
loop-fact-preserved c = λ f h n.
    elim (more-cases view_attribute c.args.wanted.now c.loop-fact.fact-index c.fact-item.result f c.loop-fact-test.true c.fact-item.is h) [
      | inl a ↦ c.loop-fact.invariant f a n
      | inr e ↦ elim c.else-not-is_no_fact.branch [
        | else-not-is_no_fact-via-then-not-is_no_fact+else-not-has_fact w ↦ subst (λ z. Has (map view_attribute c.args.given.now) z) e (w.has_fact.ensures.0 w.if-not-has_fact.false)
        | else-not-is_no_fact-via-else-not-is_no_fact w ↦ absurd (n (sym e ∙ c.is_no_fact.ensures.0 w.if-not-is_no_fact.false))
      ]
    ]
