use Rattle.std.proofs.Common.{ℕ, subst}
use Rattle.souper_graph.specs.declared.ast.flaws.FlawLocation.TheVariants.{Statement}
use Rattle.souper_graph.specs.Flaws.{IsBefore}
use Rattle.souper_graph.specs.PartsView.{view_parts}
use Rattle.souper_widths.specs.Nodes.{ClassesOf}
use Rattle.souper_widths.proofs.solution.tie_places.Goals as goal

pub tie_lines-requires-clause-before : goal.tie_lines-requires-clause-before
tie_lines-requires-clause-before c =
    subst (λ (z : ℕ). ClassesOf (view_parts c.args.parts.now) (λ k. IsBefore k (Statement z)) c.tie_statements.new.parents c.tie_statements.new.numbers) c.requires.marked.size c.in-Ok.ensures.ok
