use Rattle.std.proofs.Common.{◌≡◌, map}
use Rattle.souper_graph.specs.View.{view_statement}
use Rattle.souper_graph.specs.TakenNames.{Knows}
use Rattle.souper_graph.proofs.ast.taken_names.TakenNames.look_at.Given as goal

abbrev pub invariant-loop-index : goal.invariant-loop-index
invariant-loop-index l = record {
  kept : Knows (map view_statement l.statements) l.fn.self → Knows (map view_statement l.statements) l.self;
  at : l.self.looked_at ≡ l.index;
}
