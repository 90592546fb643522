use Rattle.std.proofs.Common.{◌∙◌, ◌+◌}
use Rattle.souper_words.proofs.Signed.{mod_of_128}
use Rattle.souper_words.proofs.arithmetic.sum.Goals as goal

pub returns : goal.returns
returns c = c.low_bits.ensures ∙ mod_of_128 c.args.width (c.args.a + c.args.b) c.requires.high
