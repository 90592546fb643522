use Rattle.std.proofs.Common.{take, map}
use Rattle.std.specs.List.{AllByRecursion}
use Rattle.souper_graph.specs.View.{view_statement}
use Rattle.souper_graph.specs.Uses.{uses_of_operand}
use Rattle.souper_graph.specs.WellFormed.{IsMet}
use Rattle.souper_graph.proofs.ast.well_formed.uses.operands_are_assigned.Given as goal

-- the operands so far are constants or name assignments
abbrev pub invariant-loop-operand : goal.invariant-loop-operand
invariant-loop-operand l = AllByRecursion (λ x. AllByRecursion (IsMet (map view_statement l.statements)) (uses_of_operand x)) (take l.operand-index l.operands)
