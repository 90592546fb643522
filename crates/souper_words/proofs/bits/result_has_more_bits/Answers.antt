use Rattle.std.proofs.Common.{sym}
use Rattle.souper_words.proofs.Signed.{is_out-wide}
use Rattle.souper_words.proofs.bits.result_has_more_bits.Goals as goal

pub returns-in-None : goal.returns-in-None
returns-in-None c = λ n h. sym (is_out-wide c.args.width n c.requires.high (rw c.in-None.is at h))
