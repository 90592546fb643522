use Rattle.std.proofs.Common.{◌≡◌, ◌++◌, map, take}
use Rattle.std.specs.String.{string_bytes}
use Rattle.souper_graph.specs.View.{view_statement}
use Rattle.souper_graph.specs.Uses.{uses_of_operands}
use Rattle.souper_graph.specs.Text.{text_of_further}
use Rattle.souper_graph.specs.WellFormed.{AreMet}
use Rattle.souper_graph.proofs.stringify.nodes.append_further.Given as goal

-- the operands so far are written, and what they use resolves
abbrev pub invariant-loop-operand : goal.invariant-loop-operand
invariant-loop-operand l = record {
  written : string_bytes l.out ≡ string_bytes l.initial.out ++ text_of_further (map view_statement l.statements) (take l.operand-index l.operands);
  met : AreMet (map view_statement l.statements) (uses_of_operands (take l.operand-index l.operands));
}
