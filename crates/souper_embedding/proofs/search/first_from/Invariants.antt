use Rattle.std.proofs.Common.{◌≡◌, []}
use Rattle.souper_graph.specs.Values.{PlainInfer}
use Rattle.souper_graph.specs.WellFormed.{WellFormed}
use Rattle.souper_embedding.specs.Search.{left_item}
use Rattle.souper_embedding.specs.States.{stored_of, query_of, IsSearch, IsState, AreWaiting, work_in}
use Rattle.souper_embedding.proofs.search.first_from.Given as goal

abbrev pub invariant-loop-state : goal.invariant-loop-state
invariant-loop-state l = (i j : PlainInfer) → IsSearch l.search → WellFormed (left_item (stored_of l.search) i) → IsState (stored_of l.search) (query_of l.search) i j l.fn.start → l.fn.start.images.items ≡ []
    → AreWaiting (stored_of l.search) (query_of l.search) i j l.fn.start l.waiting.items

abbrev pub decreases-loop-state : goal.decreases-loop-state
decreases-loop-state l = work_in l.search l.waiting.items
