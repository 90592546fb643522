use Rattle.std.proofs.Common.{◌∙◌, ◌+◌, ◌-◌, ◌^◌, min, ap}
use Rattle.souper_words.specs.declared.outcome.Outcome.TheVariants.{Number}
use Rattle.souper_words.proofs.Saturating.{least_of_both}
use Rattle.souper_words.proofs.overflows.uadd_sat.Goals as goal

pub returns : goal.returns
returns c =
    ap Number (
    c.min.ensures ∙ ap (λ n. min n c.mask.result) c.saturating_add.ensures ∙ ap (min (min (c.args.a + c.args.b) (2 ^ 128 - 1))) c.mask.ensures
    ∙ least_of_both c.args.width (c.args.a + c.args.b) c.requires.high
    )
