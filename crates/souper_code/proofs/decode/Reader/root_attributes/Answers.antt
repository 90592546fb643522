use Rattle.std.proofs.Common.{rules, arith}
use Rattle.std.proofs.lemmas.List.{map-append}
use Rattle.std.proofs.lemmas.Grind.{common_steps}
use Rattle.souper_code.specs.Codes.{code_of_root_attribute}
use Rattle.souper_code.specs.Codable.{CodableRootAttribute}
use Rattle.souper_code.proofs.Lists.{begins_more, list_only, list_none, passed}
use Rattle.souper_code.proofs.decode.Reader.root_attributes.Goals as goal

pub returns-in_err-root_attribute-clause-only : goal.returns-in_err-root_attribute-clause-only
returns-in_err-root_attribute-clause-only c = λ os rest fits e.
    passed _ c.in_err-root_attribute.field-0.0 _ _ _ (search rules)
    (list_none code_of_root_attribute CodableRootAttribute _ _ _ _ _ _ c.in_ok-count.ensures.only c.loop.invariant.begins (omega (arith, c.loop.invariant.count)) c.in_err-root_attribute.ensures.only os rest fits e)

pub loop-preserved : goal.loop-preserved
loop-preserved c = record {
  read = grind (arith, common_steps);
  fit = grind (arith, common_steps);
  count = grind (arith, common_steps);
  begins = rw (c.in_ok-push.ensures.items, map-append)
      (begins_more code_of_root_attribute CodableRootAttribute _ _ _ _ _ _ c.loop.invariant.begins (omega (arith, c.loop.invariant.count)) c.in_ok-root_attribute.ensures.only);
}

pub returns-clause-only : goal.returns-clause-only
returns-clause-only c = list_only code_of_root_attribute CodableRootAttribute _ _ _ _ _ c.in_ok-count.ensures.only c.loop.invariant.begins (omega (arith, c.loop.invariant.count))
