use Rattle.std.proofs.Common.{◌≡◌, map, take}
use Rattle.souper_graph.specs.View.{view_statement}
use Rattle.souper_graph.proofs.ast.clones.Arena+Statement.clone.Given as goal

-- the statements so far are copied
abbrev pub invariant-loop-statement : goal.invariant-loop-statement
invariant-loop-statement l = map view_statement l.copy ≡ map view_statement (take l.statement-index l.statement-items)
