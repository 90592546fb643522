use Rattle.std.proofs.Common.{◌≡◌, ◌++◌, map, take}
use Rattle.std.specs.Prelude.{flat_map}
use Rattle.std.specs.String.{string_bytes}
use Rattle.souper_graph.specs.View.{view_statement}
use Rattle.souper_graph.specs.Uses.{uses_at}
use Rattle.souper_graph.specs.Text.{lines_of}
use Rattle.souper_graph.specs.WellFormed.{AreMet}
use Rattle.souper_graph.proofs.stringify.lines.append_lines.Given as goal

-- the lines so far are written, and what they use resolves
abbrev pub invariant-loop-id : goal.invariant-loop-id
invariant-loop-id l = record {
  written : string_bytes l.out ≡ string_bytes l.initial.out ++ lines_of (map view_statement l.statements) (take l.id-index l.ids);
  met : AreMet (map view_statement l.statements) (flat_map (uses_at (map view_statement l.statements)) (take l.id-index l.ids));
}
