use Rattle.std.proofs.Common.{◌≡◌, take}
use Rattle.souper_meaning.specs.Facts.{number_of_bits}
use Rattle.souper_meaning.proofs.wanted.number_of_bools.Given as goal

-- the number of the bits so far
abbrev pub invariant-loop-bit : goal.invariant-loop-bit
invariant-loop-bit l = l.number ≡ number_of_bits (take l.bit-index l.bits)
