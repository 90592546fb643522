use Rattle.souper_graph.specs.PartsView.{view_parts}
use Rattle.souper_widths.proofs.ForwardSteps.{ForwardTo}
use Rattle.souper_widths.proofs.forward.forward_widths.Given as goal

-- what is known of the widths so far
abbrev pub invariant-loop-position : goal.invariant-loop-position
invariant-loop-position l = ForwardTo (view_parts l.parts) l.results.items l.operands.items l.position
