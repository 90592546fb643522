use Rattle.std.proofs.Common.{ℕ, ◌<◌}
use Rattle.std.specs.List.{AllByRecursion}
use Rattle.souper_graph.specs.declared.ast.flaws.FlawLocation.TheVariants.{Statement}
use Rattle.souper_graph.specs.PartsView.{view_parts}
use Rattle.souper_graph.specs.Uses.{NeededIn}
use Rattle.souper_widths.specs.Shape.{ShapedAt, shape_reasons}
use Rattle.souper_widths.proofs.places.statements_shape.Given as goal

-- the needed statements so far have a shape
abbrev pub invariant-loop-position : goal.invariant-loop-position
invariant-loop-position l = (p : ℕ) → NeededIn (view_parts l.parts) p → p < l.position → AllByRecursion (ShapedAt (view_parts l.parts) (Statement p)) shape_reasons
