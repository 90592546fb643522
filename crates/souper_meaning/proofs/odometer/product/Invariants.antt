use Rattle.std.proofs.Common.{◌≡◌, ◌-◌, ◌^◌, min}
use Rattle.std.specs.Prelude.{slice_index}
use Rattle.souper_meaning.specs.Digits.{product_of}
use Rattle.souper_meaning.proofs.odometer.product.Given as goal

-- the product so far
abbrev pub invariant-loop-count : goal.invariant-loop-count
invariant-loop-count l = l.product ≡ min (product_of (slice_index l.counts) l.count-index) (2 ^ 128 - 1)
