use Rattle.std.proofs.Common.{◌^◌, List, Option, sym, subst, ap, ◌∙◌}
use Rattle.std.specs.List.{AllByRecursion}
use Rattle.souper_graph.specs.declared.ast.operands.Operand.{Operand}
use Rattle.souper_graph.specs.Instructions.{operands_of}
use Rattle.souper_words.specs.declared.words.Word.{Word}
use Rattle.souper_meaning.specs.Instructions.{word_outcome, optional_word_outcome}
use Rattle.souper_meaning.specs.Statements.{outcome_in}
use Rattle.souper_meaning.specs.Evaluable.{IsValueBelow, AllowsWidths}
use Rattle.souper_meaning.proofs.operands.instruction_outcome_of.Goals as goal

pub word_outcome_of-requires-clause-allowed : goal.word_outcome_of-requires-clause-allowed
word_outcome_of-requires-clause-allowed c =
    subst (λ (o : Option Word). AllowsWidths o c.args.widths.result c.args.widths.operands) (sym c.in-Some.ensures) c.requires.allowed

pub word_outcome_of-requires-clause-below : goal.word_outcome_of-requires-clause-below
word_outcome_of-requires-clause-below c =
    subst (λ (os : List Operand). AllByRecursion (IsValueBelow (outcome_in c.args.done.now) (2 ^ c.args.widths.operands)) os) (sym (c.as_slice.ensures.value ∙ c.operands-operands.ensures)) c.requires.below

pub returns-in-Some : goal.returns-in-Some
returns-in-Some c =
    c.word_outcome_of.ensures
    ∙ ap (λ (os : List Operand). word_outcome c.in-Some.word c.args.widths.result c.args.widths.operands c.args.choice (outcome_in c.args.done.now) os) (c.as_slice.ensures.value ∙ c.operands-operands.ensures)
    ∙ ap (λ (o : Option Word). optional_word_outcome o c.args.widths.result c.args.widths.operands c.args.choice (outcome_in c.args.done.now) (operands_of c.args.instruction.now)) c.in-Some.ensures

pub returns-in-None : goal.returns-in-None
returns-in-None c =
    ap (λ (o : Option Word). optional_word_outcome o c.args.widths.result c.args.widths.operands c.args.choice (outcome_in c.args.done.now) (operands_of c.args.instruction.now)) c.in-None.ensures
