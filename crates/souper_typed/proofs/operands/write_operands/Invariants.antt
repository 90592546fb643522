use Rattle.std.proofs.Common.{◌≡◌, ◌++◌, map, take, drop}
use Rattle.souper_typed.specs.Written.{written_operand}
use Rattle.souper_typed.proofs.operands.write_operands.Given as goal

-- the first operands are written
abbrev pub invariant-loop-operand : goal.invariant-loop-operand
invariant-loop-operand l = l.operands ≡ map (written_operand l.form l.width) (take l.operand-index l.initial.operands) ++ drop l.operand-index l.initial.operands
