use Rattle.std.proofs.Common.{◌≡◌, take}
use Rattle.souper_graph.specs.FlawSearch.{marked_from}
use Rattle.souper_graph.proofs.stringify.needed.marked.Given as goal

-- the positions so far
abbrev pub invariant-loop-index : goal.invariant-loop-index
invariant-loop-index l = l.ids.items ≡ marked_from 0 (take l.index l.marks)
