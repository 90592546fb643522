use Rattle.std.proofs.Common.{ℕ, ◌<◌, ◌≤◌, map, length}
use Rattle.souper_graph.specs.View.{view_statement}
use Rattle.souper_graph.specs.Renaming.{name_of_index}
use Rattle.souper_graph.specs.Building.{IsNameAmong}
use Rattle.souper_graph.specs.TakenNames.{Knows}
use Rattle.souper_graph.proofs.ast.taken_names.TakenNames.make.Given as goal

abbrev pub invariant-loop-number : goal.invariant-loop-number
invariant-loop-number l = record {
  kept : Knows (map view_statement l.statements) l.fn.self → Knows (map view_statement l.statements) l.self;
  passed : Knows (map view_statement l.statements) l.fn.self → (j : ℕ) → length (map view_statement l.statements) ≤ j → j < l.number-counter →
      IsNameAmong (map view_statement l.statements) (name_of_index j);
  from : length (map view_statement l.statements) ≤ l.number-counter;
  all : length (map view_statement l.statements) ≤ l.self.looked_at;
}
