-- An instruction has few operands.
use Rattle.std.proofs.Common.{◌≤◌, length, arith}
use Rattle.souper_graph.specs.declared.ast.instructions.Instruction.{Instruction}
use Rattle.souper_graph.specs.Instructions.{operands_of}
use Rattle.souper_graph.proofs.Arities.{Arity, no_operands, unary, binary, ternary, arity_of}

by_arity : (i : Instruction) → Arity i → length (operands_of i) ≤ 3
by_arity i no_operands = omega arith
by_arity i (unary F w a is) = rw (is.operands a) (omega arith)
by_arity i (binary F w a b is) = rw (is.operands a b) (omega arith)
by_arity i (ternary F w a b c is) = rw (is.operands a b c) (omega arith)

pub few_operands : (i : Instruction) → length (operands_of i) ≤ 3
few_operands i = by_arity i (arity_of i)
