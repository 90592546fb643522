use Rattle.std.proofs.Common.{◌∙◌, arith}
use Rattle.souper_words.proofs.Signed.{difference_bits}
use Rattle.souper_words.proofs.arithmetic.difference.Goals as goal

pub returns : goal.returns
returns c = c.low_bits.ensures ∙ difference_bits c.args.width c.args.a c.args.b c.requires.high (omega arith) (omega arith)
