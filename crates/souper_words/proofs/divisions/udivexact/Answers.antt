use Rattle.std.proofs.Common.{◌∙◌, ◌/◌, ◌%◌, sym, ap, not, cond, eqb, pos}
use Rattle.souper_words.specs.declared.outcome.Outcome.TheVariants.{Number, Poison}
use Rattle.souper_words.proofs.Dividing.{quotient_small, row_defined, eqb-zero}
use Rattle.souper_words.proofs.divisions.udivexact.Goals as goal

pub returns : goal.returns
returns c =
    c.unless.ensures
    ∙ sym (
    row_defined c.args.width (pos (c.args.a / c.args.b)) (not (eqb (c.args.a % c.args.b) 0)) (eqb c.args.b 0) (eqb-zero c.args.b c.if-b-eq0.false)
    ∙ ap (λ n. cond (not (eqb (c.args.a % c.args.b) 0)) Poison (Number n)) (quotient_small c.args.width c.args.a c.args.b c.requires.fits_a)
    )
