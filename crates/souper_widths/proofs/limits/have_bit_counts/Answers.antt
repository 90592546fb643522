use Rattle.std.proofs.Common.{rules}
use Rattle.souper_graph.specs.View.{view_attribute}
use Rattle.souper_graph.proofs.Judging.Closed.{All-map_at}
use Rattle.souper_widths.specs.Limits.{HasBitCount}
use Rattle.souper_widths.proofs.limits.have_bit_counts.Goals as goal

pub returns-then-not-has_bit_count : goal.returns-then-not-has_bit_count
returns-then-not-has_bit_count c = (
  (λ e. absurd (cc)),
  (λ all. c.if-not-has_bit_count.ensures.1 (All-map_at (HasBitCount c.args.width) view_attribute c.args.attributes.now c.loop-attribute.attribute-index c.attribute-item.result (search rules) c.attribute-item.is all)),
)
