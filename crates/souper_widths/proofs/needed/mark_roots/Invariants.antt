use Rattle.std.proofs.Common.{map, take}
use Rattle.souper_graph.specs.Uses.{position_of, uses_of_operands}
use Rattle.souper_widths.specs.Marking.{AddsMarks}
use Rattle.souper_widths.proofs.needed.mark_roots.Given as goal

-- the roots so far are marked
abbrev pub invariant-loop-root : goal.invariant-loop-root
invariant-loop-root l = AddsMarks l.initial.marks l.marks (map position_of (uses_of_operands (take l.root-index l.root-items)))
