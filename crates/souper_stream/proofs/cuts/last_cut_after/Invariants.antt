-- The start, or the last cut point that was found.
use Rattle.std.proofs.Common.{◌≡◌, ◌-◌, ◌≤◌, List, length}
use Rattle.souper_stream.specs.Segments.{Line, concat, AreLines}
use Rattle.souper_stream.proofs.Cutting.{Placed}
use Rattle.souper_stream.proofs.cuts.last_cut_after.Given as goal

abbrev pub invariant-loop-len : goal.invariant-loop-len
invariant-loop-len g l = record {
  within : l.cut ≤ length l.text;
  placed : (ls : List Line) → l.text ≡ concat ls → AreLines ls → Placed g.T.Item.item_type ls l.text l.start l.cut;
}

abbrev pub decreases-loop-len : goal.decreases-loop-len
decreases-loop-len g l = length l.text - l.cut
