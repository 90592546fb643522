use Rattle.std.proofs.Common.{◌<◌, ◌≤◌, ◌∙◌, ◌%◌, ap, sym, arith}
use Rattle.std.proofs.lemmas.Nat.{mod_below}
use Rattle.souper_words.specs.declared.outcome.Outcome.TheVariants.{Number}
use Rattle.souper_words.proofs.Shifting.{funnel, funnel_right_by_zero}
use Rattle.souper_words.proofs.shifts.fshr.Goals as goal

pub returns-then-k-eq0 : goal.returns-then-k-eq0
returns-then-k-eq0 c = ap Number (sym (funnel_right_by_zero c.args.width c.args.a c.args.b (c.args.c % c.args.width) c.requires.fits_b c.if-k-eq0.true))

pub returns : goal.returns
returns c =
    let l : c.args.c % c.args.width < c.args.width = mod_below c.args.c c.args.width c.requires.low in
    let h : c.args.c % c.args.width ≤ c.args.width = omega arith in
    ap Number (c.low_bits.ensures ∙ funnel c.args.width c.args.a c.args.b (c.args.c % c.args.width) h c.requires.high c.requires.fits_b)
