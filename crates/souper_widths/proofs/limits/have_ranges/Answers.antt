use Rattle.std.proofs.Common.{rules}
use Rattle.souper_graph.specs.View.{view_attribute}
use Rattle.souper_graph.proofs.Judging.Closed.{All-map_at}
use Rattle.souper_widths.specs.Limits.{HasRange}
use Rattle.souper_widths.proofs.limits.have_ranges.Goals as goal

pub returns-then-not-has_range : goal.returns-then-not-has_range
returns-then-not-has_range c = (
  (λ e. absurd (cc)),
  (λ all. c.if-not-has_range.ensures.1 (All-map_at (HasRange c.args.width) view_attribute c.args.attributes.now c.loop-attribute.attribute-index c.attribute-item.result (search rules) c.attribute-item.is all)),
)
