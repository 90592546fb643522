use Rattle.souper_graph.specs.PartsView.{view_parts}
use Rattle.souper_widths.proofs.Untold.{ToldBefore}
use Rattle.souper_widths.proofs.told.untold_statement.Given as goal

-- the needed statements so far are told
abbrev pub invariant-loop-position : goal.invariant-loop-position
invariant-loop-position l = ToldBefore (view_parts l.parts) l.nodes l.position
