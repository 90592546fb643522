use Rattle.std.proofs.Common.{◌≡◌, length}
use Rattle.souper_embedding.specs.Maps.{IsUnknown}
use Rattle.souper_embedding.proofs.maps.unknown_map.Given as goal

abbrev pub invariant-loop-index : goal.invariant-loop-index
invariant-loop-index l = record {
  unknown : IsUnknown l.to.items;
  long : length l.to.items ≡ l.index;
}
