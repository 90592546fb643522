use Rattle.std.proofs.Common.{refl, arith}
use Rattle.std.proofs.lemmas.Grind.{common_steps}
use Rattle.std.proofs.lemmas.Int.{to_z-of_z}
use Rattle.examples_using.proofs.folding.wrapped_sum.Goals as goal

pub returns-clause-some : goal.returns-clause-some
returns-clause-some c = record {
  width = c.in_ok-ty.ty.width;
  narrow = omega (arith, c.if-ty-gt126.false);
  first = grind (arith, common_steps);
  second = grind (arith, common_steps);
  typed = refl;
  sum = grind (arith, to_z-of_z);
}
