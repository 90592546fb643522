use Rattle.std.proofs.Common.{refl, sym, ◌∙◌, rules}
use Rattle.std.specs.Prelude.{IsTrue}
use Rattle.souper_graph.specs.View.{view_attribute}
use Rattle.souper_graph.proofs.Judging.Closed.{All-map_at}
use Rattle.souper_widths.specs.Shape.{IsFact}
use Rattle.souper_widths.proofs.shape.facts_are_allowed.Goals as goal

pub returns-then-not-is_input : goal.returns-then-not-is_input
returns-then-not-is_input c = (
  (λ e. absurd (cc)),
  (λ all.
      let allowed = All-map_at (λ f. IsFact f → IsTrue c.args.is_input) view_attribute c.args.attributes.now c.loop-attribute.attribute-index c.attribute-item.result (search rules) c.attribute-item.is all in
      sym c.if-not-is_input.true ∙ allowed (c.if-is_fact.ensures.0 refl)),
)
