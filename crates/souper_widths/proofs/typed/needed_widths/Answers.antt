use Rattle.std.proofs.Common.{sym, subst}
use Rattle.souper_graph.specs.PartsView.{view_parts}
use Rattle.souper_widths.specs.Nodes.{MarkNeeded}
use Rattle.souper_widths.proofs.typed.needed_widths.Goals as goal

pub marked_widths-requires-clause-marked : goal.marked_widths-requires-clause-marked
marked_widths-requires-clause-marked c = subst (MarkNeeded (view_parts c.args.parts.now)) (sym c.deref-in-None.ensures.value) c.in_ok-marks.ensures
