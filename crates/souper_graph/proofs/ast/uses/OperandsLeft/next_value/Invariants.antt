use Rattle.std.proofs.Common.{◌≡◌, length}
use Rattle.souper_graph.specs.Uses.{uses_of_operands}
use Rattle.souper_graph.specs.UsesView.{operands_left}
use Rattle.souper_graph.proofs.ast.uses.OperandsLeft.next_value.Given as goal

-- only constants were passed
abbrev pub invariant-loop-operand : goal.invariant-loop-operand
invariant-loop-operand l = uses_of_operands (operands_left l.initial.self) ≡ uses_of_operands (operands_left l.self)

abbrev pub decreases-loop-operand : goal.decreases-loop-operand
decreases-loop-operand l = length (operands_left l.self)
