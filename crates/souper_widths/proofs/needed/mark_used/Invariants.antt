use Rattle.std.proofs.Common.{◌≡◌, ◌++◌, ℕ, List, map}
use Rattle.souper_graph.specs.View.{view_statement}
use Rattle.souper_graph.specs.Uses.{position_of, uses_of}
use Rattle.souper_widths.specs.Marking.{AddsMarks}
use Rattle.souper_widths.proofs.needed.mark_used.Given as goal

-- the uses so far are marked
abbrev pub invariant-loop-used : goal.invariant-loop-used
invariant-loop-used l =
    goal.iterator-loop-used.can_next l.used-iterator
    × goal.iterator-loop-used.is_finite l.used-iterator
    × ((before : List ℕ) × (before ++ map position_of l.used-iterator ≡ map position_of (uses_of (view_statement l.statement))) × AddsMarks l.initial.marks l.marks before)
