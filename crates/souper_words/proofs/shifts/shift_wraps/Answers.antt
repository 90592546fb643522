use Rattle.souper_words.proofs.Shifting.{shift_test}
use Rattle.souper_words.proofs.shifts.shift_wraps.Goals as goal

pub returns : goal.returns
returns c = shift_test c.args.width c.args.b c.args.a c.mask.result c.requires.within c.mask.ensures
