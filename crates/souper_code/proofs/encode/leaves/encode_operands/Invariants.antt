use Rattle.std.proofs.Common.{◌≡◌, ◌++◌, flat_map, take}
use Rattle.souper_code.specs.Codes.{code_of_operand}
use Rattle.souper_code.proofs.encode.leaves.encode_operands.Given as goal

-- the count and the operands so far are written
abbrev pub invariant-loop-operand : goal.invariant-loop-operand
invariant-loop-operand l =
    l.out.items ≡ l.initial.out.items ++ flat_map code_of_operand (take l.operand-index l.operands)
