-- The texts are the same up to the index.
use Rattle.std.proofs.Common.{◌≡◌, ◌≤◌, length, take}
use Rattle.souper_diff.specs.Comparisons.{line_ends}
use Rattle.souper_diff.proofs.comparison.common_front.Given as goal

abbrev pub invariant-loop-index : goal.invariant-loop-index
invariant-loop-index l = record {
  same : take l.index l.other ≡ take l.index l.text;
  room : l.index ≤ length l.other;
  lines : l.newlines ≡ line_ends (take l.index l.text);
}
