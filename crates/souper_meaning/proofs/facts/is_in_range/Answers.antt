use Rattle.std.proofs.Common.{◌≡◌, ap, ◌∙◌, arith}
use Rattle.std.specs.Int.{w128}
use Rattle.std.proofs.lemmas.Int.{to_z-of_z}
use Rattle.souper_words.specs.Numbers.{bits_of}
use Rattle.souper_words.proofs.Saturating.{bits_of_below}
use Rattle.souper_meaning.proofs.FactBits.{range_from}
use Rattle.souper_meaning.proofs.facts.is_in_range.Goals as goal

pub distance-place-requires-clause-from : goal.distance-place-requires-clause-from
distance-place-requires-clause-from c =
    let f : c.signed_bits-first.result ≡ bits_of c.args.width c.args.low = c.signed_bits-first.ensures ∙ ap (bits_of c.args.width) (to_z-of_z w128 c.args.low c.ranges.low) in
    omega (arith, bits_of_below c.args.width c.args.low, f, c.mask_of-mask.ensures)

pub distance-size-requires-clause-to : goal.distance-size-requires-clause-to
distance-size-requires-clause-to c =
    let e : c.signed_bits-end.result ≡ bits_of c.args.width c.args.high = c.signed_bits-end.ensures ∙ ap (bits_of c.args.width) (to_z-of_z w128 c.args.high c.ranges.high) in
    omega (arith, bits_of_below c.args.width c.args.high, e, c.mask_of-mask.ensures)

pub returns : goal.returns
returns c =
    let f : c.signed_bits-first.result ≡ bits_of c.args.width c.args.low = c.signed_bits-first.ensures ∙ ap (bits_of c.args.width) (to_z-of_z w128 c.args.low c.ranges.low) in
    let e : c.signed_bits-end.result ≡ bits_of c.args.width c.args.high = c.signed_bits-end.ensures ∙ ap (bits_of c.args.width) (to_z-of_z w128 c.args.high c.ranges.high) in
    range_from c.args.width (bits_of c.args.width c.args.low) (bits_of c.args.width c.args.high) c.args.n c.mask_of-mask.result c.signed_bits-first.result c.signed_bits-end.result c.distance-place.result c.distance-size.result c.is_within.result
    c.mask_of-mask.ensures f e c.distance-place.ensures c.distance-size.ensures c.is_within.ensures
