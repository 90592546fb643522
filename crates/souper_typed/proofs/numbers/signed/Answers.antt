use Rattle.std.proofs.Common.{◌∙◌, sym}
use Rattle.std.specs.Int.{w128}
use Rattle.std.proofs.lemmas.Int.{to_z-of_z}
use Rattle.souper_typed.proofs.WrittenNumbers.{wide-stays}
use Rattle.souper_typed.proofs.numbers.signed.Goals as goal

pub returns-then-width-ge128 : goal.returns-then-width-ge128
returns-then-width-ge128 c = to_z-of_z w128 c.args.number c.ranges.number ∙ sym (wide-stays c.args.width c.args.number c.if-width-ge128.true c.ranges.number)
