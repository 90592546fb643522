use Rattle.std.proofs.Common.{◌≡◌, ◌++◌, map, take, drop}
use Rattle.souper_graph.specs.declared.ast.operands.Operand.{Operand}
use Rattle.souper_graph.specs.Replacing.{Computes}
use Rattle.souper_graph.proofs.ast.replacing.map_values.Given as goal

-- the first values are replaced
abbrev pub invariant-loop-value : goal.invariant-loop-value
invariant-loop-value g l =
    goal.F-IsAlwaysCallable g l.f
    × ((h : Operand → Operand) → Computes (λ x y. goal.F-post g l.f x y) h → l.values ≡ map h (take l.value-index l.initial.values) ++ drop l.value-index l.initial.values)
