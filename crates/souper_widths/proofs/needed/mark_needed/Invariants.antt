use Rattle.std.proofs.Common.{◌≤◌, length}
use Rattle.souper_graph.specs.PartsView.{view_parts}
use Rattle.souper_widths.specs.Marking.{MarkFrom}
use Rattle.souper_widths.proofs.needed.mark_needed.Given as goal

-- the needed statements from the position on are marked
abbrev pub invariant-loop-position : goal.invariant-loop-position
invariant-loop-position l = record {
  within : l.position ≤ length (view_parts l.parts).statements;
  marked : MarkFrom (view_parts l.parts) l.position l.marks;
}

abbrev pub decreases-loop-position : goal.decreases-loop-position
decreases-loop-position l = l.position
