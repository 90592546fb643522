use Rattle.std.proofs.Common.{Option, ap, ◌∙◌}
use Rattle.souper_graph.specs.declared.ast.operands.Operand.{Operand}
use Rattle.souper_meaning.specs.Instructions.{optional_outcome}
use Rattle.souper_meaning.specs.Statements.{outcome_in}
use Rattle.souper_meaning.proofs.operands.optional_outcome_of.Goals as goal

pub returns-in-Some : goal.returns-in-Some
returns-in-Some c = c.operand_outcome_of.ensures ∙ ap (λ (o : Option Operand). optional_outcome (outcome_in c.args.done.now) c.args.width o) c.in-Some.ensures

pub returns-in-None : goal.returns-in-None
returns-in-None c = ap (λ (o : Option Operand). optional_outcome (outcome_in c.args.done.now) c.args.width o) c.in-None.ensures
