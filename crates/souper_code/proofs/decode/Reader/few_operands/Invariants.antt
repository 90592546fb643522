use Rattle.std.proofs.Common.{◌≡◌, ◌++◌, length, flat_map}
use Rattle.std.specs.List.{AllByRecursion}
use Rattle.souper_code.specs.Codes.{code_of_operand}
use Rattle.souper_code.specs.Codable.{CodableOperand}
use Rattle.souper_code.proofs.Lists.{Begins}
use Rattle.souper_code.proofs.decode.Reader.few_operands.Given as goal

-- the operands so far were read, and no others are there
abbrev pub invariant-loop : goal.invariant-loop
invariant-loop l = record {
  read : l.initial.self.rest.now ≡ flat_map code_of_operand l.operands.items ++ l.self.rest.now;
  fit : AllByRecursion CodableOperand l.operands.items;
  count : length l.operands.items ≡ l.counter;
  begins : Begins code_of_operand CodableOperand l.count l.initial.self.rest.now l.operands.items l.self.rest.now;
}
