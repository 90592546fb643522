use Rattle.examples_using.specs.Folding.{FoldsUpTo}
use Rattle.examples_using.proofs.folding.fold_adds.Given as goal

-- the item so far
abbrev pub invariant-loop-index : goal.invariant-loop-index
invariant-loop-index g l = FoldsUpTo l.index (g.T.Item.view l.initial.item) (g.T.Item.view l.item)
