use Rattle.std.proofs.Common.{◌≡◌, ℕ, ◌<◌, map, Some, false}
use Rattle.std.specs.Prelude.{slice_get}
use Rattle.souper_graph.specs.View.{view_root_attribute}
use Rattle.souper_embedding.specs.Embedding.{IsUnwanted}
use Rattle.souper_embedding.proofs.facts.wants_bits_within.Given as goal

abbrev pub invariant-loop-index : goal.invariant-loop-index
invariant-loop-index l = (k : ℕ) → k < l.index → slice_get l.bits k ≡ Some false → IsUnwanted (map view_root_attribute l.query) k
