use Rattle.std.proofs.Common.{◌≡◌, ◌++◌, map, take, drop}
use Rattle.souper_graph.specs.View.{view_statement}
use Rattle.souper_graph.specs.Replacing.{replaced_in}
use Rattle.souper_graph.proofs.ast.replacing.replace_in.Given as goal

-- in the first statements the uses are replaced
abbrev pub invariant-loop-index : goal.invariant-loop-index
invariant-loop-index l =
    let before = map view_statement l.initial.statements in
    map view_statement l.statements ≡ map (replaced_in l.of l.by) (take l.index before) ++ drop l.index before
