use Rattle.std.proofs.Common.{take, map}
use Rattle.std.specs.List.{AllByRecursion}
use Rattle.souper_graph.specs.View.{view_statement}
use Rattle.souper_widths.specs.Shape.{IsBlockOperand}
use Rattle.souper_widths.proofs.shape.has_no_block.Given as goal

-- no operand so far is a block
abbrev pub invariant-loop-operand : goal.invariant-loop-operand
invariant-loop-operand l = AllByRecursion (λ x. ¬ IsBlockOperand (map view_statement l.statements) x) (take l.operand-index l.operands)
