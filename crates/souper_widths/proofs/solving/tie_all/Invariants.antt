use Rattle.std.proofs.Common.{take}
use Rattle.souper_widths.specs.Forest.{AreClasses}
use Rattle.souper_widths.specs.Ties.{AddsTies}
use Rattle.souper_widths.proofs.solving.tie_all.Given as goal

-- the ties so far have been added
abbrev pub invariant-loop-item : goal.invariant-loop-item
invariant-loop-item l = record {
  classes : AreClasses l.parents l.numbers;
  added : AddsTies l.initial.parents l.initial.numbers l.parents l.numbers (take l.item-index l.ties);
}
