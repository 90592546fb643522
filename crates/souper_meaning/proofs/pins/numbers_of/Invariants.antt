-- The numbers so far, narrowed by the remaining statements, are those of all.
use Rattle.std.proofs.Common.{◌≡◌, ℕ, ◌<◌, length}
use Rattle.std.specs.Prelude.{slice_index_or}
use Rattle.souper_graph.specs.PartsView.{view_parts}
use Rattle.souper_widths.specs.View.{view_widths}
use Rattle.souper_meaning.specs.Pins.{unsaid, numbers_at}
use Rattle.souper_meaning.proofs.Pinned.{pinned_among}
use Rattle.souper_meaning.proofs.pins.numbers_of.Given as goal

abbrev pub invariant-loop-statement : goal.invariant-loop-statement
invariant-loop-statement l = (goal.iterator-loop-statement).can_next l.statement-iterator × (goal.iterator-loop-statement).is_finite l.statement-iterator × (length l.numbers.items ≡ length (view_parts l.parts).statements)
    × ((p : ℕ) → p < length (view_parts l.parts).statements
    → pinned_among (view_parts l.parts) (view_widths l.plan.widths) p (slice_index_or l.numbers.items p unsaid) l.statement-iterator ≡ numbers_at (view_parts l.parts) (view_widths l.plan.widths) p)
