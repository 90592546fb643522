use Rattle.std.proofs.Common.{map, take}
use Rattle.souper_graph.specs.View.{view_statement}
use Rattle.souper_lookup.specs.Instance.{names_of_all, IsSetOf}
use Rattle.souper_lookup.proofs.names.all_names.Given as goal

abbrev pub invariant-loop-index : goal.invariant-loop-index
invariant-loop-index l = IsSetOf (take l.index (names_of_all (map view_statement l.statements))) l.taken
