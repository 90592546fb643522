use Rattle.std.proofs.Common.{◌≡◌, ◌<◌, ◌≤◌, ℕ, length}
use Rattle.souper_widths.specs.Forest.{IsForest, Follows, SameTrees}
use Rattle.souper_widths.proofs.forest.root_of.Given as goal

-- the trees are those of the beginning, and the node has the width of where the way has come
abbrev pub invariant-loop-parents : goal.invariant-loop-parents
invariant-loop-parents l = record {
  forest : IsForest l.parents;
  same : SameTrees l.initial.parents l.parents;
  within : l.at < length l.parents;
  below : l.at ≤ l.node;
  tied : (u : ℕ → ℕ) → Follows u l.initial.parents → u l.node ≡ u l.at;
}

abbrev pub decreases-loop-parents : goal.decreases-loop-parents
decreases-loop-parents l = l.at
