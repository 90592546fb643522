use Rattle.souper_words.proofs.Signed.{mask_is}
use Rattle.souper_meaning.proofs.facts.mask_of.Goals as goal

pub returns : goal.returns
returns c = mask_is c.args.width c.requires.high
