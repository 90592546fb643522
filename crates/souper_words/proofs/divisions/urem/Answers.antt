use Rattle.std.proofs.Common.{◌∙◌, ◌*◌, ◌/◌, ◌-ℤ◌, sym, ap, false, eqb, pos}
use Rattle.souper_words.specs.declared.outcome.Outcome.TheVariants.{Number}
use Rattle.souper_words.proofs.Dividing.{rest_bits, row_defined, eqb-zero}
use Rattle.souper_words.proofs.divisions.urem.Goals as goal

pub returns : goal.returns
returns c =
    sym (
    row_defined c.args.width (pos c.args.a -ℤ pos (c.args.b * (c.args.a / c.args.b))) false (eqb c.args.b 0) (eqb-zero c.args.b c.if-b-eq0.false)
    ∙ ap Number (rest_bits c.args.width c.args.a c.args.b c.requires.fits_a)
    )
