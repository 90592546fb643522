use Rattle.std.proofs.Common.{◌≡◌, length}
use Rattle.souper_graph.specs.PartsView.{view_parts}
use Rattle.souper_graph.specs.Flaws.{IsBefore}
use Rattle.souper_graph.specs.declared.ast.flaws.FlawLocation.TheVariants.{Statement}
use Rattle.souper_widths.specs.Forest.{AreClasses}
use Rattle.souper_widths.specs.Nodes.{ClassesOf}
use Rattle.souper_widths.proofs.conflicts.tie_statements.Given as goal

-- the classes are those of the statements so far
abbrev pub invariant-loop-position : goal.invariant-loop-position
invariant-loop-position l = record {
  size : length l.parents ≡ length l.initial.parents;
  classes : AreClasses l.parents l.numbers;
  before : ClassesOf (view_parts l.parts) (λ k. IsBefore k (Statement l.position)) l.parents l.numbers;
}
