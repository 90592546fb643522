use Rattle.std.proofs.Common.{◌≡◌, ℕ, ◌+◌, ◌<◌, ◌≤◌}
use Rattle.std.specs.Prelude.{slice_index}
use Rattle.souper_meaning.specs.Digits.{product_of, number_of}
use Rattle.souper_meaning.proofs.odometer.advance.Given as goal

-- the digits so far were the last ones and are the first now; those from here on are as they were
abbrev pub invariant-loop-place : goal.invariant-loop-place
invariant-loop-place l = record {
  full : number_of (slice_index l.counts) (slice_index l.initial.digits) l.place + 1 ≡ product_of (slice_index l.counts) l.place;
  zeros : (q : ℕ) → q < l.place → slice_index l.digits q ≡ 0;
  kept : (q : ℕ) → l.place ≤ q → slice_index l.digits q ≡ slice_index l.initial.digits q;
}
