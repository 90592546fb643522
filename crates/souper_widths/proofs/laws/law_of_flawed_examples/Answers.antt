use Rattle.souper_widths.proofs.FlawedExamples.{third_part-flaw, narrow_pair-flaw, unknown_operand-flaw, large_constant-flaw}
use Rattle.souper_widths.proofs.laws.law_of_flawed_examples.Goals as goal

pub returns-clause-index : goal.returns-clause-index
returns-clause-index c = third_part-flaw

pub returns-clause-pair : goal.returns-clause-pair
returns-clause-pair c = narrow_pair-flaw

pub returns-clause-unknown : goal.returns-clause-unknown
returns-clause-unknown c = unknown_operand-flaw

pub returns-clause-constant : goal.returns-clause-constant
returns-clause-constant c = large_constant-flaw
