use Rattle.std.proofs.Common.{◌↔◌, drop}
use Rattle.souper_meaning.specs.Facts.{HasKnownBits}
use Rattle.souper_meaning.proofs.facts.has_known_bits.Given as goal

-- the bits so far are as known, so it depends on the rest
abbrev pub invariant-loop-index : goal.invariant-loop-index
invariant-loop-index l = HasKnownBits l.bits l.n ↔ HasKnownBits (drop l.index l.bits) l.n
