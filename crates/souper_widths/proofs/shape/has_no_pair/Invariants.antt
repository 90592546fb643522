use Rattle.std.proofs.Common.{take, map}
use Rattle.std.specs.List.{AllByRecursion}
use Rattle.souper_graph.specs.View.{view_statement}
use Rattle.souper_widths.specs.Shape.{IsPairOperand}
use Rattle.souper_widths.proofs.shape.has_no_pair.Given as goal

-- no operand so far is a pair
abbrev pub invariant-loop-operand : goal.invariant-loop-operand
invariant-loop-operand l = AllByRecursion (λ x. ¬ IsPairOperand (map view_statement l.statements) x) (take l.operand-index l.operands)
