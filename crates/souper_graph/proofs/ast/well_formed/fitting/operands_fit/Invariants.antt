use Rattle.std.proofs.Common.{take}
use Rattle.std.specs.List.{AllByRecursion}
use Rattle.souper_graph.specs.WellFormed.{FitsOperand}
use Rattle.souper_graph.proofs.ast.well_formed.fitting.operands_fit.Given as goal

-- the operands so far are valid
abbrev pub invariant-loop-operand : goal.invariant-loop-operand
invariant-loop-operand l = AllByRecursion FitsOperand (take l.operand-index l.operands)
