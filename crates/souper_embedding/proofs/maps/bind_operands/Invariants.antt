use Rattle.std.proofs.Common.{◌≡◌, ℕ, length, map, take}
use Rattle.souper_graph.specs.Uses.{position_of, uses_of_operands}
use Rattle.souper_graph.specs.Sameness.{carried_operand}
use Rattle.souper_embedding.specs.Maps.{Follows, Binds, AreBelow}
use Rattle.souper_embedding.proofs.maps.bind_operands.Given as goal

abbrev pub invariant-loop-index : goal.invariant-loop-index
invariant-loop-index l = record {
  bound : Binds l.initial.to l.to (map position_of (uses_of_operands (take l.index l.xs)));
  sound : (f : ℕ → ℕ) → Follows l.to f → take l.index l.ys ≡ map (carried_operand f) (take l.index l.xs);
  forced : (f : ℕ → ℕ) → Follows l.initial.to f → l.ys ≡ map (carried_operand f) l.xs → AreBelow (length l.initial.to) (map position_of (uses_of_operands l.xs)) → Follows l.to f;
}
