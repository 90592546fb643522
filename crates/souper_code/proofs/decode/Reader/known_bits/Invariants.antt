use Rattle.std.proofs.Common.{◌≡◌, ◌++◌, length, flat_map}
use Rattle.std.specs.List.{AllByRecursion}
use Rattle.souper_code.specs.Codes.{code_of_known_bit}
use Rattle.souper_code.specs.Codable.{CodableKnownBit}
use Rattle.souper_code.proofs.Lists.{Begins}
use Rattle.souper_code.proofs.decode.Reader.known_bits.Given as goal

-- the bits so far were read, and no others are there
abbrev pub invariant-loop : goal.invariant-loop
invariant-loop l = record {
  read : l.initial.self.rest.now ≡ flat_map code_of_known_bit l.known_bits.items ++ l.self.rest.now;
  fit : AllByRecursion CodableKnownBit l.known_bits.items;
  count : length l.known_bits.items ≡ l.counter;
  begins : Begins code_of_known_bit CodableKnownBit l.count l.initial.self.rest.now l.known_bits.items l.self.rest.now;
}
