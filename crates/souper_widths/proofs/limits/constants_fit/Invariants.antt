use Rattle.std.proofs.Common.{take}
use Rattle.std.specs.List.{AllByRecursion}
use Rattle.souper_widths.specs.Limits.{FitsBits}
use Rattle.souper_widths.proofs.limits.constants_fit.Given as goal

-- the constants so far fit
abbrev pub invariant-loop-operand : goal.invariant-loop-operand
invariant-loop-operand l = AllByRecursion (FitsBits l.width) (take l.operand-index l.operands)
