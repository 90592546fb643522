use Rattle.std.proofs.Common.{◌≡◌, ◌++◌, drop, Some}
use Rattle.souper_graph.specs.Syntax.Numbers.{all_of, known_bit_of}
use Rattle.souper_graph.specs.Syntax.Optional.{◌>>=◌}
use Rattle.souper_ir.proofs.parse.numbers.known_bits.Given as goal

abbrev pub invariant-loop-byte : goal.invariant-loop-byte
invariant-loop-byte l = all_of known_bit_of l.byte-items ≡ (all_of known_bit_of (drop l.byte-index l.byte-items) >>= λ bits. Some (l.bits.items ++ bits))
