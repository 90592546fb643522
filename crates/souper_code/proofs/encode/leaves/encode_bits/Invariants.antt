use Rattle.std.proofs.Common.{◌≡◌, ◌++◌, flat_map, take}
use Rattle.souper_code.specs.Codes.{code_of_bit}
use Rattle.souper_code.proofs.encode.leaves.encode_bits.Given as goal

-- the bits so far are written
abbrev pub invariant-loop-bit : goal.invariant-loop-bit
invariant-loop-bit l =
    l.out.items ≡ l.initial.out.items ++ flat_map code_of_bit (take l.bit-index l.bits)
