use Rattle.std.proofs.Common.{ap, ◌∙◌, ◌/◌}
use Rattle.souper_words.proofs.Signed.{half_mask, tests-is_out}
use Rattle.souper_words.proofs.bits.has_more_bits.Goals as goal

pub returns-else-z-greatest : goal.returns-else-z-greatest
returns-else-z-greatest c =
    tests-is_out c.args.width c.args.z (c.mask.result / 2) c.requires.high c.ranges.z
    (ap (λ n. n / 2) c.mask.ensures ∙ half_mask c.args.width c.requires.low) c.if-z-greatest.false
