use Rattle.std.proofs.Common.{◌≡◌, ℕ, take, Some}
use Rattle.std.specs.Prelude.{map, slice_get, IsTrue}
use Rattle.souper_graph.specs.Values.{PlainStatement}
use Rattle.souper_graph.specs.Uses.{Has, is_condition}
use Rattle.souper_graph.specs.View.{view_statement}
use Rattle.souper_embedding.proofs.conditions.is_repeated.Given as goal

abbrev pub invariant-loop-position : goal.invariant-loop-position
invariant-loop-position l = (g : ℕ) (s : PlainStatement) → Has (take l.position-index l.found) g → slice_get (map view_statement l.statements) g ≡ Some s → slice_get (map view_statement l.statements) l.index ≡ Some s → IsTrue (is_condition s) → ⊥
