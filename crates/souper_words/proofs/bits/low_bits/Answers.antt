use Rattle.std.proofs.Common.{ap, ◌∙◌, bit_and}
use Rattle.std.proofs.lemmas.Nat.{and_mask}
use Rattle.souper_words.proofs.bits.low_bits.Goals as goal

pub returns : goal.returns
returns c = ap (bit_and c.args.n) c.mask.ensures ∙ and_mask c.args.n c.args.width
