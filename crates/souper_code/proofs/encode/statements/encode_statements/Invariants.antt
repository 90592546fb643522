-- The code so far, and then that of the remaining ones, is the code of all.
use Rattle.std.proofs.Common.{◌≡◌, ◌++◌, map, flat_map}
use Rattle.souper_graph.specs.View.{view_statement}
use Rattle.souper_code.specs.Codes.{code_of_statement}
use Rattle.souper_code.proofs.Statements.{code_among}
use Rattle.souper_code.proofs.encode.statements.encode_statements.Given as goal

abbrev pub invariant-loop-statement : goal.invariant-loop-statement
invariant-loop-statement l = (goal.iterator-loop-statement).can_next l.statement-iterator × (goal.iterator-loop-statement).is_finite l.statement-iterator
    × (l.out.items ++ code_among l.statement-iterator ≡ l.initial.out.items ++ flat_map code_of_statement (map view_statement l.statements))
