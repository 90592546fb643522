use Rattle.std.proofs.Common.{◌≤◌, length}
use Rattle.souper_graph.specs.Values.{PlainInfer}
use Rattle.souper_graph.specs.WellFormed.{WellFormed}
use Rattle.souper_embedding.specs.Search.{left_item}
use Rattle.souper_embedding.specs.States.{stored_of, query_of, IsSearch, IsStart, AreSearched, work_in}
use Rattle.souper_embedding.proofs.search.all_from.Given as goal

abbrev pub invariant-loop-state : goal.invariant-loop-state
invariant-loop-state l = record {
  few : length l.found.items ≤ l.limit;
  searched : (i j : PlainInfer) → IsSearch l.search → WellFormed (left_item (stored_of l.search) i) → IsStart (stored_of l.search) (query_of l.search) i j l.fn.start
      → AreSearched (stored_of l.search) (query_of l.search) i j l.fn.start l.found.items l.waiting.items;
}

abbrev pub decreases-loop-state : goal.decreases-loop-state
decreases-loop-state l = work_in l.search l.waiting.items
