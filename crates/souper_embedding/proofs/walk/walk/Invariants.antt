use Rattle.std.proofs.Common.{◌≡◌, ℕ, ◌≤◌, List, length, map}
use Rattle.souper_graph.specs.View.{view_statement}
use Rattle.souper_embedding.specs.Maps.{Follows, UseBelow, KnownAreNeeded, EachStands}
use Rattle.souper_embedding.proofs.Walking.{WalkedAbove}
use Rattle.souper_embedding.proofs.walk.walk.Given as goal

abbrev pub invariant-loop-left : goal.invariant-loop-left
invariant-loop-left l = record {
  long : length l.to ≡ length l.initial.to;
  within : l.left ≤ length l.to;
  walked : (walks : List ℕ) → UseBelow (map view_statement l.stored) walks → KnownAreNeeded (map view_statement l.stored) walks l.initial.to
      → WalkedAbove (map view_statement l.stored) (map view_statement l.query) walks l.initial.to l.to l.left;
  forced : (walks : List ℕ) (f : ℕ → ℕ) → UseBelow (map view_statement l.stored) walks → KnownAreNeeded (map view_statement l.stored) walks l.initial.to → Follows l.initial.to f
      → EachStands (map view_statement l.stored) (map view_statement l.query) walks f → Follows l.to f;
}

abbrev pub decreases-loop-left : goal.decreases-loop-left
decreases-loop-left l = l.left
