use Rattle.std.proofs.Common.{◌∙◌, ◌/◌, sym, ap, false, eqb, pos}
use Rattle.souper_words.specs.declared.outcome.Outcome.TheVariants.{Number}
use Rattle.souper_words.proofs.Dividing.{quotient_small, row_defined, eqb-zero}
use Rattle.souper_words.proofs.divisions.udiv.Goals as goal

pub returns : goal.returns
returns c =
    sym (
    row_defined c.args.width (pos (c.args.a / c.args.b)) false (eqb c.args.b 0) (eqb-zero c.args.b c.if-b-eq0.false)
    ∙ ap Number (quotient_small c.args.width c.args.a c.args.b c.requires.fits_a)
    )
