use Rattle.std.proofs.Common.{◌≡◌, map}
use Rattle.souper_graph.specs.View.{view_statement}
use Rattle.souper_widths.specs.View.{view_widths}
use Rattle.souper_typed.proofs.Loops.{written_to}
use Rattle.souper_typed.proofs.statements.write_statements.Given as goal

-- the first statements are written
abbrev pub invariant-loop-index : goal.invariant-loop-index
invariant-loop-index l = map view_statement l.statements ≡ written_to l.form (view_widths l.widths) 0 l.index (map view_statement l.initial.statements)
