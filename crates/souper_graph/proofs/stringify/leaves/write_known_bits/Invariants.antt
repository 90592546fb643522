use Rattle.std.proofs.Common.{map, take}
use Rattle.std.specs.Fmt.{HasWrittenStyled, IsFlush}
use Rattle.souper_graph.specs.Leaves.{text_of_known_bit}
use Rattle.souper_graph.proofs.stringify.leaves.write_known_bits.Given as goal

-- the bits so far are written
abbrev pub invariant-loop-bit : goal.invariant-loop-bit
invariant-loop-bit g l =
    IsFlush l.initial.f → HasWrittenStyled g.W.Write.write_str_gives l.initial.f (map text_of_known_bit (take l.bit-index l.bits)) l.f
