use Rattle.std.proofs.Common.{◌≡◌, ℕ, ◌<◌, length}
use Rattle.souper_embedding.specs.Maps.{GoesTo, Follows, IsOneToOne, IsUnknown}
use Rattle.souper_embedding.proofs.Inverses.{inverse, Inverts}
use Rattle.souper_embedding.proofs.roots.invert.Given as goal

abbrev pub invariant-loop-p : goal.invariant-loop-p
invariant-loop-p l = record {
  long : length l.from ≡ length l.initial.from;
  inverts : Inverts l.to l.from l.p;
  forced : IsUnknown l.initial.from → IsOneToOne l.to → ((p q : ℕ) → GoesTo l.to p q → q < length l.initial.from) → Follows l.from (inverse l.to);
}
