use Rattle.std.proofs.Common.{◌≡◌, ◌++◌, flat_map, take}
use Rattle.souper_meaning.specs.Sampling.{neighbours_of_operand}
use Rattle.souper_meaning.proofs.edges.push_operands.Given as goal

-- the edges of the operands so far are appended
abbrev pub invariant-loop-operand : goal.invariant-loop-operand
invariant-loop-operand l = l.edges.items ≡ l.initial.edges.items ++ flat_map neighbours_of_operand (take l.operand-index l.operands)
