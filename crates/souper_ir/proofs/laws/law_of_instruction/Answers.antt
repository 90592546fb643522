use Rattle.souper_ir.specs.Laws.RightSides.{instruction_starts}
use Rattle.souper_ir.proofs.laws.law_of_instruction.Goals as goal

pub returns-clause-starts : goal.returns-clause-starts
returns-clause-starts c = instruction_starts
