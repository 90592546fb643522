use Rattle.std.proofs.Common.{◌≡◌, ◌<◌, ◌≤◌, ◌∙◌, ◌+◌, ◌*◌, ◌-◌, ◌/◌, ◌%◌, ◌^◌, ap, sym, arith, bit_or}
use Rattle.std.proofs.lemmas.Nat.{mod_below}
use Rattle.souper_words.specs.declared.outcome.Outcome.TheVariants.{Number}
use Rattle.souper_words.proofs.Shifting.{funnel, left_then_right, funnel_left_by_zero}
use Rattle.souper_words.proofs.shifts.fshl.Goals as goal

pub returns-then-k-eq0 : goal.returns-then-k-eq0
returns-then-k-eq0 c = ap Number (sym (funnel_left_by_zero c.args.width c.args.a c.args.b (c.args.c % c.args.width) c.requires.fits_a c.requires.fits_b c.if-k-eq0.true))

pub returns : goal.returns
returns c =
    let w = c.args.width in
    let k = c.args.c % c.args.width in
    let l : c.args.c % c.args.width < c.args.width = mod_below c.args.c c.args.width c.requires.low in
    let h : c.args.width - c.args.c % c.args.width ≤ c.args.width = omega arith in
    let e : c.args.width - (c.args.width - c.args.c % c.args.width) ≡ c.args.c % c.args.width = omega arith in
    ap Number (
    c.low_bits.ensures
    ∙ ap (λ n. bit_or (c.args.a * 2 ^ n % 2 ^ 128) (c.args.b / 2 ^ (w - k)) % 2 ^ w) (sym e)
    ∙ funnel w c.args.a c.args.b (w - k) h c.requires.high c.requires.fits_b
    ∙ ap (λ n. n % 2 ^ w) (sym (left_then_right w (c.args.a * 2 ^ w + c.args.b) k (omega arith)))
    )
