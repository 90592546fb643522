-- The lines before the rest were scanned, and no cut point is between them.
use Rattle.std.proofs.Common.{◌≡◌, ◌<◌, ◌≤◌, true, List, length}
use Rattle.souper_stream.specs.Segments.{Line, concat, AreLines}
use Rattle.souper_stream.proofs.Cutting.{Scanned}
use Rattle.souper_stream.proofs.cuts.scan_segment.Given as goal

abbrev pub invariant-loop-line : goal.invariant-loop-line
invariant-loop-line g l = record {
  within : length l.rest ≤ length l.text;
  begun : l.state.ends_item ≡ true → length l.rest < length l.text;
  scanned : (ls : List Line) → l.text ≡ concat ls → AreLines ls → Scanned g.T.Item.item_type ls l.rest l.state;
}

abbrev pub decreases-loop-line : goal.decreases-loop-line
decreases-loop-line g l = length l.rest
