use Rattle.std.proofs.Common.{rules}
use Rattle.souper_graph.specs.View.{view_root_attribute}
use Rattle.souper_graph.specs.WellFormed.{FitsRootAttribute}
use Rattle.souper_graph.proofs.Judging.Closed.{All-map_at}
use Rattle.souper_graph.proofs.ast.well_formed.fitting.root_attributes_fit.Goals as goal

pub returns-then-not-root_attribute_fits : goal.returns-then-not-root_attribute_fits
returns-then-not-root_attribute_fits c = (
  (λ e. absurd (cc)),
  (λ all. c.if-not-root_attribute_fits.ensures.1 (All-map_at FitsRootAttribute view_root_attribute c.args.attributes.now c.loop-attribute.attribute-index c.attribute-item.result (search rules) c.attribute-item.is all)),
)
