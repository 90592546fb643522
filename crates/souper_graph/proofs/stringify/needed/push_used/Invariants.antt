use Rattle.std.proofs.Common.{◌≡◌, ◌++◌, map}
use Rattle.souper_graph.specs.View.{view_statement}
use Rattle.souper_graph.specs.Uses.{position_of, uses_of}
use Rattle.souper_graph.specs.Walks.{position_of_target}
use Rattle.souper_graph.proofs.stringify.needed.push_used.Given as goal

-- the positions so far, and then those of the remaining uses, are those of all
abbrev pub invariant-loop-used : goal.invariant-loop-used
invariant-loop-used l =
    goal.iterator-loop-used.can_next l.used-iterator
    × goal.iterator-loop-used.is_finite l.used-iterator
    × (map position_of_target l.targets.items ++ map position_of l.used-iterator ≡ map position_of_target l.initial.targets.items ++ map position_of (uses_of (view_statement l.statement)))
