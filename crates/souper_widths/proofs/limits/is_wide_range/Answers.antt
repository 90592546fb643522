use Rattle.std.proofs.Common.{◌≡◌, refl, sym, ap, ◌∙◌, of_z, to_z}
use Rattle.std.specs.Int.{w128}
use Rattle.std.proofs.lemmas.Int.{to_z-of_z}
use Rattle.souper_widths.specs.Limits.{bits_of}
use Rattle.souper_widths.proofs.Powers.{range-apart, range-all, range-whole}
use Rattle.souper_widths.proofs.limits.is_wide_range.Goals as goal

pub returns-then-low-high : goal.returns-then-low-high
returns-then-low-high c = (
  (λ _. range-apart c.args.width c.args.low c.args.high c.requires c.ranges.low c.ranges.high (λ e. c.if-low-high.true (ap (of_z w128) e))),
  (λ _. refl),
)

pub returns : goal.returns
returns c =
    let same : c.args.low ≡ c.args.high = sym (to_z-of_z w128 c.args.low c.ranges.low) ∙ ap (to_z w128) c.if-low-high.false ∙ to_z-of_z w128 c.args.high c.ranges.high in (
      (λ t. range-all c.args.width c.args.low (bits_of c.args.width c.args.high) (sym (to_z-of_z w128 c.args.low c.ranges.low) ∙ c.is_minus_one.ensures.0 t)),
      (λ r. c.is_minus_one.ensures.1 (to_z-of_z w128 c.args.low c.ranges.low ∙ range-whole c.args.width c.args.low c.args.high c.requires c.ranges.low same (λ e. c.if-low-eq0.false (ap (of_z w128) e)) r)),
    )
