use Rattle.std.proofs.Common.{◌≡◌, map, take}
use Rattle.std.specs.String.{string_bytes}
use Rattle.souper_graph.specs.View.{view_statement}
use Rattle.souper_graph.specs.Text.{name_at}
use Rattle.souper_lookup.proofs.names.names_of.Given as goal

abbrev pub invariant-loop-id : goal.invariant-loop-id
invariant-loop-id l = map string_bytes l.names.items ≡ map (name_at (map view_statement l.statements)) (take l.id-index l.ids)
