use Rattle.std.proofs.Common.{ℕ, ◌<◌, length}
use Rattle.souper_graph.specs.PartsView.{view_parts}
use Rattle.souper_graph.specs.Uses.{NeededIn}
use Rattle.souper_widths.specs.View.{view_widths}
use Rattle.souper_meaning.specs.View.{view_world, view_mode}
use Rattle.souper_meaning.specs.Numbering.{HasDigitAt}
use Rattle.souper_meaning.specs.Stepping.{HasPlaces}
use Rattle.souper_meaning.specs.Sampling.{digit_at}
use Rattle.souper_meaning.proofs.sampling.put_try.Given as goal

-- the statements so far are given what the try says
abbrev pub invariant-loop-position : goal.invariant-loop-position
invariant-loop-position l = record {
  places : HasPlaces (length (view_parts l.parts).statements) (view_world l.world);
  given : (p : ℕ) → p < l.position → NeededIn (view_parts l.parts) p
      → HasDigitAt (view_parts l.parts) (view_widths l.plan.widths) (view_world l.world) p (digit_at (view_mode l.tried.mode) (view_parts l.parts) (view_widths l.plan.widths) l.tried.number l.tried.state p);
}
