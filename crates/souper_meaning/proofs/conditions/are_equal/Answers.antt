use Rattle.std.proofs.Common.{◌↔◌, subst}
use Rattle.std.specs.Prelude.{IsTrue}
use Rattle.souper_words.specs.declared.outcome.Outcome.{Outcome}
use Rattle.souper_meaning.specs.Instructions.{operand_outcome}
use Rattle.souper_meaning.specs.Statements.{outcome_in}
use Rattle.souper_meaning.specs.Sound.{AreOneNumber}
use Rattle.souper_meaning.proofs.conditions.are_equal.Goals as goal

pub returns : goal.returns
returns c =
    subst (λ (o : Outcome). IsTrue c.are_one_number.result ↔ AreOneNumber o (operand_outcome (outcome_in c.args.done.now) c.args.width c.args.y)) c.operand_outcome_of-first.ensures
    (subst (λ (o : Outcome). IsTrue c.are_one_number.result ↔ AreOneNumber c.operand_outcome_of-first.result o) c.operand_outcome_of-second.ensures c.are_one_number.ensures)
