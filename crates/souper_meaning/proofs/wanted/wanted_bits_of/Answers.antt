use Rattle.std.proofs.Common.{rules}
use Rattle.souper_graph.specs.View.{view_root_attribute}
use Rattle.souper_graph.proofs.Judging.Closed.{All-map_at}
use Rattle.souper_widths.specs.Limits.{HasRootBitCount}
use Rattle.souper_meaning.proofs.WantedBits.{wanted_step, few_bits}
use Rattle.souper_meaning.proofs.wanted.wanted_bits_of.Goals as goal

pub narrowed_by-wanted-requires : goal.narrowed_by-wanted-requires
narrowed_by-wanted-requires c =
    few_bits c.args.width (view_root_attribute c.attribute-item.result) c.requires.high
    (All-map_at (HasRootBitCount c.args.width) view_root_attribute c.args.attributes.now c.loop-attribute.attribute-index c.attribute-item.result (search rules) c.attribute-item.is c.requires.bit_counts)

pub loop-attribute-preserved : goal.loop-attribute-preserved
loop-attribute-preserved c =
    wanted_step c.args.width c.args.attributes.now c.loop-attribute.attribute-index c.loop-attribute.wanted c.narrowed_by-wanted.result c.attribute-item.result (search rules) c.attribute-item.is c.loop-attribute.invariant
    c.narrowed_by-wanted.ensures
