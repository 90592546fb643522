use Rattle.std.proofs.Common.{◌↔◌, map}
use Rattle.std.specs.Prelude.{IsTrue}
use Rattle.std.specs.List.{AllByRecursion}
use Rattle.souper_graph.specs.View.{view_statement}
use Rattle.souper_graph.specs.Uses.{uses_of}
use Rattle.souper_graph.specs.Flaws.{IsEarlier, IsValueMet}
use Rattle.souper_graph.proofs.ast.well_formed.uses.use_reason.Given as goal

-- the uses so far are earlier, and their values assignments unless the flag says otherwise
abbrev pub invariant-loop-used : goal.invariant-loop-used
invariant-loop-used l =
    goal.iterator-loop-used.can_next l.used-iterator
    × goal.iterator-loop-used.is_finite l.used-iterator
    × (AllByRecursion (IsEarlier l.position) l.used-iterator ↔ AllByRecursion (IsEarlier l.position) (uses_of (view_statement l.statement)))
    × ((IsTrue l.are_assigned × AllByRecursion (IsValueMet (map view_statement l.statements)) l.used-iterator)
    ↔ AllByRecursion (IsValueMet (map view_statement l.statements)) (uses_of (view_statement l.statement)))
