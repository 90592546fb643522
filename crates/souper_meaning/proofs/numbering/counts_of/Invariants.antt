use Rattle.std.proofs.Common.{◌≡◌, ℕ, ◌-◌, ◌^◌, ◌<◌, min}
use Rattle.std.specs.Prelude.{slice_index}
use Rattle.souper_graph.specs.PartsView.{view_parts}
use Rattle.souper_widths.specs.View.{view_widths}
use Rattle.souper_meaning.specs.View.{view_mode}
use Rattle.souper_meaning.specs.Numbering.{count_at}
use Rattle.souper_meaning.proofs.numbering.counts_of.Given as goal

-- the counts so far
abbrev pub invariant-loop-position : goal.invariant-loop-position
invariant-loop-position l = (p : ℕ) → p < l.position → slice_index l.counts.items p ≡ min (count_at (view_mode l.mode) (view_parts l.parts) (view_widths l.plan.widths) l.plan.needed.items p) (2 ^ 128 - 1)
