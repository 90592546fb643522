use Rattle.std.proofs.Common.{sym}
use Rattle.souper_words.proofs.Signed.{exceeds_wide}
use Rattle.souper_words.proofs.arithmetic.exceeds.Goals as goal

pub returns-in-None : goal.returns-in-None
returns-in-None c = λ m h. sym (exceeds_wide c.args.width m c.requires.high (rw c.in-None.is at h))
