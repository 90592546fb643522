use Rattle.std.proofs.Common.{◌≡◌, ◌++◌, take}
use Rattle.std.specs.Prelude.{flat_map}
use Rattle.souper_widths.specs.Ties.{operand_tie}
use Rattle.souper_widths.proofs.equations.push_operand_ties.Given as goal

-- the ties of the operands so far have been appended
abbrev pub invariant-loop-operand : goal.invariant-loop-operand
invariant-loop-operand l = l.ties.items ≡ l.fn.ties.items ++ flat_map (λ x. operand_tie x l.side l.more) (take l.operand-index l.operands)
