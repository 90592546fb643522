use Rattle.std.proofs.Common.{◌∙◌, sym, rules}
use Rattle.std.proofs.lemmas.Bool.{false≢true}
use Rattle.souper_graph.specs.View.{view_attribute}
use Rattle.souper_graph.proofs.Judging.Closed.{All-map_at}
use Rattle.souper_widths.specs.Limits.{HasBitCount, HasSignBits}
use Rattle.souper_meaning.specs.Facts.{HoldsOf}
use Rattle.souper_meaning.proofs.facts.hold_of.Goals as goal

pub holds_of-holds-requires-clause-count : goal.holds_of-holds-requires-clause-count
holds_of-holds-requires-clause-count c =
    All-map_at (HasBitCount c.args.width) view_attribute c.args.attributes.now c.loop-attribute.attribute-index c.attribute-item.result (search rules) c.attribute-item.is c.requires.count

pub holds_of-holds-requires-clause-sign_bits : goal.holds_of-holds-requires-clause-sign_bits
holds_of-holds-requires-clause-sign_bits c =
    All-map_at (HasSignBits c.args.width) view_attribute c.args.attributes.now c.loop-attribute.attribute-index c.attribute-item.result (search rules) c.attribute-item.is c.requires.sign_bits

pub returns-then-not-holds : goal.returns-then-not-holds
returns-then-not-holds c = (
  (λ e. absurd (false≢true e)),
  (λ all. sym c.if-not-holds.true ∙ c.holds_of-holds.ensures.1 (All-map_at (HoldsOf c.args.width c.args.n) view_attribute c.args.attributes.now c.loop-attribute.attribute-index c.attribute-item.result (search rules) c.attribute-item.is all)),
)
