use Rattle.std.proofs.Common.{◌≡◌, ◌≤◌, ◌+◌, length}
use Rattle.souper_graph.specs.Values.{PlainInfer}
use Rattle.souper_graph.specs.Uses.{Has}
use Rattle.souper_graph.specs.WellFormed.{WellFormed}
use Rattle.souper_embedding.specs.declared.search.Embedding.{Embedding}
use Rattle.souper_embedding.specs.Search.{left_item}
use Rattle.souper_embedding.specs.States.{stored_of, query_of, IsSearch, IsState, AreNext}
use Rattle.souper_embedding.proofs.search.expand.Given as goal

abbrev pub invariant-loop-left : goal.invariant-loop-left
invariant-loop-left l = record {
  few : length l.found.items + l.left ≤ length l.search.given.now;
  longer : (y : Embedding) → Has l.found.items y → length y.images.items ≡ length l.state.images.items + 1;
  next : (i j : PlainInfer) → IsSearch l.search → WellFormed (left_item (stored_of l.search) i) → IsState (stored_of l.search) (query_of l.search) i j l.state
      → AreNext (stored_of l.search) (query_of l.search) i j l.search.given.now l.state l.left l.found.items;
}

abbrev pub decreases-loop-left : goal.decreases-loop-left
decreases-loop-left l = l.left
