use Rattle.souper_graph.specs.PartsView.{view_parts}
use Rattle.souper_widths.specs.View.{view_widths}
use Rattle.souper_widths.proofs.LimitFlaws.{KeptBefore}
use Rattle.souper_widths.proofs.limit_flaws.statements_limit.Given as goal

-- the needed statements so far keep the limits
abbrev pub invariant-loop-position : goal.invariant-loop-position
invariant-loop-position l = KeptBefore (view_parts l.parts) (view_widths l.widths) l.position
