use Rattle.std.proofs.Common.{◌≡◌}
use Rattle.souper_graph.specs.PartsView.{view_parts}
use Rattle.souper_widths.specs.Forest.{filled}
use Rattle.souper_widths.specs.Nodes.{listed, shown_at, operands_shown_at}
use Rattle.souper_widths.proofs.item_widths.widths_by.Given as goal

-- the lists have the widths of the statements so far
abbrev pub invariant-loop-position : goal.invariant-loop-position
invariant-loop-position l = record {
  results : l.results.items ≡ listed (shown_at (view_parts l.parts).statements l.marks (filled 1 l.nodes)) l.position;
  operands : l.operands.items ≡ listed (operands_shown_at (view_parts l.parts).statements l.marks (filled 1 l.nodes)) l.position;
}
