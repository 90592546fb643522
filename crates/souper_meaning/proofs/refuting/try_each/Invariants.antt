use Rattle.std.proofs.Common.{◌≡◌, ◌≤◌, length}
use Rattle.souper_graph.specs.PartsView.{view_parts}
use Rattle.souper_widths.specs.View.{view_widths}
use Rattle.souper_meaning.specs.View.{view_world, view_mode}
use Rattle.souper_meaning.specs.Stepping.{HasPlaces}
use Rattle.souper_meaning.specs.Refutations.{AllTriesRefine, MeetsAtTry, HoldsTimes}
use Rattle.souper_meaning.proofs.refuting.try_each.Given as goal

-- the tries so far do not refute, and their number that met facts and conditions is there
abbrev pub invariant-loop-number : goal.invariant-loop-number
invariant-loop-number l = record {
  outcomes : length l.outcomes.items ≡ length (view_parts l.parts).statements;
  places : HasPlaces (length (view_parts l.parts).statements) (view_world l.world);
  refine : AllTriesRefine (view_mode l.fn.mode) (view_parts l.parts) (view_widths l.plan.widths) l.fn.seed l.number;
  few : l.met ≤ l.number;
  met : HoldsTimes (MeetsAtTry (view_mode l.fn.mode) (view_parts l.parts) (view_widths l.plan.widths) l.fn.seed) l.number l.met;
}
