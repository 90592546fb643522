-- The pairs so far are the same graphs.
use Rattle.std.proofs.Common.{map, length, take}
use Rattle.std.specs.List.{AllZip}
use Rattle.souper_graph.specs.Sameness.{SameGraph}
use Rattle.souper_format.proofs.same.are_pairwise_same.Given as goal

abbrev pub invariant-loop-x : goal.invariant-loop-x
invariant-loop-x g l = (goal.iterator-loop-x g).can_next l.x-iterator × (goal.iterator-loop-x g).is_finite l.x-iterator
    × AllZip SameGraph (map g.T.Item.view (take (length l.yielded) l.a)) (map g.T.Item.view (take (length l.yielded) l.b))
