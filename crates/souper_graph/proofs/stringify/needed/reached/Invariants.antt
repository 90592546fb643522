use Rattle.std.proofs.Common.{◌+◌, length, map}
use Rattle.souper_graph.specs.View.{view_statement}
use Rattle.souper_graph.specs.Walks.{position_of_target}
use Rattle.souper_graph.proofs.Order.Runs.{work}
use Rattle.souper_graph.proofs.FlawSearch.Reached.{Walking}
use Rattle.souper_graph.proofs.stringify.needed.reached.Given as goal

-- what the targets reach is marked, on the stack, or used by what is on the stack
abbrev pub invariant-loop-target : goal.invariant-loop-target
invariant-loop-target l = Walking (map view_statement l.statements) (map position_of_target l.fn.targets.items) (map position_of_target l.stack.items) l.marks

abbrev pub decreases-loop-target : goal.decreases-loop-target
decreases-loop-target l = work (map view_statement l.statements) l.marks + length l.stack.items
