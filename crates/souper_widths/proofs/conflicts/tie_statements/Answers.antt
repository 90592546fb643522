use Rattle.std.proofs.Common.{◌≡◌, ℕ, length, subst, arith}
use Rattle.souper_graph.specs.PartsView.{view_parts}
use Rattle.souper_graph.specs.Flaws.{IsBefore}
use Rattle.souper_graph.specs.declared.ast.flaws.FlawLocation.TheVariants.{Statement}
use Rattle.souper_widths.specs.Nodes.{ClassesOf}
use Rattle.souper_widths.proofs.conflicts.tie_statements.Goals as goal

pub returns-clause-ok : goal.returns-clause-ok
returns-clause-ok c =
    let e : c.loop-position.position ≡ length c.args.marks.now = omega (arith, c.loop-position-test.false, c.loop-position.auto.position-end) in
    subst (λ (z : ℕ). ClassesOf (view_parts c.args.parts.now) (λ k. IsBefore k (Statement z)) c.loop-position.parents c.loop-position.numbers) e c.loop-position.invariant.before
