use Rattle.std.proofs.Common.{◌<◌, ◌^◌, bit_and, sym, ap, arith}
use Rattle.std.proofs.Math.Nat.{mod-eq_of_lt}
use Rattle.std.proofs.lemmas.Nat.{and_le_l}
use Rattle.souper_words.specs.declared.outcome.Outcome.TheVariants.{Number}
use Rattle.souper_words.proofs.bitwise.and.Goals as goal

pub returns : goal.returns
returns c = let l : bit_and c.args.a c.args.b < 2 ^ c.args.width = omega (arith, and_le_l c.args.a c.args.b) in ap Number (sym (mod-eq_of_lt l))
