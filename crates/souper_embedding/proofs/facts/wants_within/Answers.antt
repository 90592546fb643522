use Rattle.std.proofs.Common.{◌≡◌, map, true, false, sym, ◌∙◌}
use Rattle.souper_graph.specs.View.{view_root_attribute}
use Rattle.souper_embedding.proofs.Wanting.{wants-more, wants-one}
use Rattle.souper_embedding.proofs.facts.wants_within.Goals as goal

pub returns-then-not-wants_attribute_within : goal.returns-then-not-wants_attribute_within
returns-then-not-wants_attribute_within c = (
  (λ t. absurd (let z : false ≡ true = t in cc)),
  (λ h. let one = wants-one view_root_attribute c.args.stored.now c.loop-attribute.attribute-index c.attribute-item.result (map view_root_attribute c.args.query.now) c.loop-attribute-test.true c.attribute-item.is h in
      let t = c.wants_attribute_within.ensures.1 one in let n : true ≡ false = sym t ∙ c.if-not-wants_attribute_within.true in absurd (cc)),
)

pub loop-attribute-preserved : goal.loop-attribute-preserved
loop-attribute-preserved c =
    wants-more view_root_attribute c.args.stored.now c.loop-attribute.attribute-index c.attribute-item.result (map view_root_attribute c.args.query.now) c.loop-attribute-test.true c.attribute-item.is c.loop-attribute.invariant
    (c.wants_attribute_within.ensures.0 c.if-not-wants_attribute_within.false)
