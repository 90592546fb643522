-- The start, or the last cut point that was found, and how far the lines after it were scanned.
use Rattle.std.proofs.Common.{◌≡◌, ◌+◌, ◌-◌, ◌<◌, ◌≤◌, List, length, drop}
use Rattle.souper_stream.specs.Segments.{Line, concat, AreLines}
use Rattle.souper_stream.specs.Scanning.{HasScan, first_scan}
use Rattle.souper_stream.proofs.Cutting.{Placed}
use Rattle.souper_stream.proofs.cuts.scan_to_last_cut.Given as goal

abbrev pub invariant-segments : goal.invariant-segments
invariant-segments g l = record {
  within : l.cut + l.scan.len ≤ length l.text;
  placed : (ls : List Line) → l.text ≡ concat ls → AreLines ls → Placed g.T.Item.item_type ls l.text 0 l.cut;
  scanned : HasScan g.T.Item.item_type (drop l.cut l.text) l.scan;
  begun : 0 < l.cut → l.scan ≡ first_scan;
}

abbrev pub decreases-segments : goal.decreases-segments
decreases-segments g l = length l.text - l.cut
