use Rattle.std.proofs.Common.{take}
use Rattle.souper_widths.specs.Forward.{ForceWidth}
use Rattle.souper_widths.proofs.forward.width_before.Given as goal

-- the width of the operands so far
abbrev pub invariant-loop-operand : goal.invariant-loop-operand
invariant-loop-operand l = ForceWidth l.results l.width (take l.operand-index l.operands)
