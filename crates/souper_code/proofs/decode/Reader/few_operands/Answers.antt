use Rattle.std.proofs.Common.{rules, arith}
use Rattle.std.proofs.lemmas.Grind.{common_steps}
use Rattle.souper_code.specs.Codes.{code_of_operand}
use Rattle.souper_code.specs.Codable.{CodableOperand}
use Rattle.souper_code.proofs.Lists.{begins_more, list_only, list_none, passed}
use Rattle.souper_code.proofs.decode.Reader.few_operands.Goals as goal

pub returns-in_err-operand-clause-only : goal.returns-in_err-operand-clause-only
returns-in_err-operand-clause-only c = λ os rest few fits e.
    passed _ c.in_err-operand.field-0.0 _ _ _ (search rules)
    (list_none code_of_operand CodableOperand _ _ _ _ _ _ c.in_ok-count.ensures.only c.loop.invariant.begins (omega (arith, c.loop.invariant.count)) c.in_err-operand.ensures.only os rest fits e)

pub loop-preserved : goal.loop-preserved
loop-preserved c = record {
  read = grind (arith, common_steps);
  fit = grind (arith, common_steps);
  count = grind (arith, common_steps);
  begins = rw c.push.ensures.items
      (begins_more code_of_operand CodableOperand _ _ _ _ _ _ c.loop.invariant.begins (omega (arith, c.loop.invariant.count)) c.in_ok-operand.ensures.only);
}

pub returns-clause-only : goal.returns-clause-only
returns-clause-only c = λ os rest few fits e.
    list_only code_of_operand CodableOperand _ _ _ _ _ c.in_ok-count.ensures.only c.loop.invariant.begins (omega (arith, c.loop.invariant.count)) os rest fits e
