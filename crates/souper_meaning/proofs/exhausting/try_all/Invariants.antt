use Rattle.std.proofs.Common.{◌≡◌, ◌<◌, length}
use Rattle.std.specs.Prelude.{slice_index}
use Rattle.souper_graph.specs.PartsView.{view_parts}
use Rattle.souper_widths.specs.View.{view_widths}
use Rattle.souper_meaning.specs.View.{view_mode}
use Rattle.souper_meaning.specs.Digits.{number_of}
use Rattle.souper_meaning.specs.Stepping.{IsNumbered}
use Rattle.souper_meaning.proofs.Tried.{Tried}
use Rattle.souper_meaning.proofs.exhausting.try_all.Given as goal

-- the worlds so far were tried, and the next one is there, if there is one
abbrev pub invariant-loop-number : goal.invariant-loop-number
invariant-loop-number l = record {
  outcomes : length l.outcomes.items ≡ length (view_parts l.parts).statements;
  numbered : IsNumbered (view_parts l.parts) (view_widths l.plan.widths) l.counts l.numbered;
  number : l._number < l.world_count → number_of (slice_index l.counts) (slice_index l.numbered.digits.items) (length l.counts) ≡ l._number;
  tried : Tried (view_mode l.fn.mode) (view_parts l.parts) (view_widths l.plan.widths) l.plan.needed.items l._number l.has_met;
}
