use Rattle.std.proofs.Common.{ℕ, ◌<◌, ◌≤◌, length}
use Rattle.std.specs.Prelude.{slice_index}
use Rattle.souper_graph.specs.PartsView.{view_parts}
use Rattle.souper_graph.specs.Uses.{NeededIn}
use Rattle.souper_widths.specs.View.{view_widths}
use Rattle.souper_meaning.specs.View.{view_world}
use Rattle.souper_meaning.specs.Numbering.{HasDigitAt}
use Rattle.souper_meaning.specs.Stepping.{HasPlaces, GiveSameAt}
use Rattle.souper_meaning.proofs.stepping.put_digits.Given as goal

-- the statements so far are given what their digits say, and the others keep what they have
abbrev pub invariant-loop-position : goal.invariant-loop-position
invariant-loop-position l = record {
  places : HasPlaces (length (view_parts l.parts).statements) (view_world l.world);
  given : (p : ℕ) → p < l.position → NeededIn (view_parts l.parts) p → HasDigitAt (view_parts l.parts) (view_widths l.plan.widths) (view_world l.world) p (slice_index l.digits p);
  others : (p : ℕ) → l.position ≤ p → GiveSameAt (view_world l.initial.world) (view_world l.world) p;
}
