use Rattle.std.proofs.Common.{◌≡◌, map, take}
use Rattle.souper_graph.specs.View.{view_statement}
use Rattle.souper_graph.specs.Order.{Distinct}
use Rattle.souper_graph.specs.Renaming.{name_of_index, named_from}
use Rattle.souper_graph.proofs.stringify.renamed.write_names.Given as goal

-- the first ones of the list are named
abbrev pub invariant-loop-index : goal.invariant-loop-index
invariant-loop-index l =
    Distinct l.ids → map view_statement l.statements ≡ named_from name_of_index (take l.index l.ids) 0 (map view_statement l.initial.statements)
