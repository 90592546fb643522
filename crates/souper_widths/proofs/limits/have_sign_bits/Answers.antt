use Rattle.std.proofs.Common.{rules}
use Rattle.souper_graph.specs.View.{view_attribute}
use Rattle.souper_graph.proofs.Judging.Closed.{All-map_at}
use Rattle.souper_widths.specs.Limits.{HasSignBits}
use Rattle.souper_widths.proofs.limits.have_sign_bits.Goals as goal

pub returns-then-not-has_sign_bits : goal.returns-then-not-has_sign_bits
returns-then-not-has_sign_bits c = (
  (λ e. absurd (cc)),
  (λ all. c.if-not-has_sign_bits.ensures.1 (All-map_at (HasSignBits c.args.width) view_attribute c.args.attributes.now c.loop-attribute.attribute-index c.attribute-item.result (search rules) c.attribute-item.is all)),
)
