use Rattle.std.proofs.Common.{◌∙◌, ap}
use Rattle.souper_words.specs.declared.outcome.Outcome.TheVariants.{Number}
use Rattle.souper_words.proofs.Saturating.{rest_or_zero}
use Rattle.souper_words.proofs.overflows.usub_sat.Goals as goal

pub returns : goal.returns
returns c = ap Number (c.saturating_sub.ensures ∙ rest_or_zero c.args.width c.args.a c.args.b c.requires.fits_a)
