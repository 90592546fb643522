use Rattle.std.proofs.Common.{◌+◌, inl, length, drop, refl, ap, arith, length-drop}
use Rattle.std.proofs.lemmas.List.{take_rest}
use Rattle.souper_stream.proofs.Cutting.{placed_first, placed_more, whole_uncut, scan_none}
use Rattle.souper_stream.proofs.cuts.scan_to_last_cut.Goals as goal

pub segments-init : goal.segments-init
segments-init g c = record {
  within = omega (arith, c.requires.within);
  placed = λ ls e lines. placed_first g.T.Item.item_type ls c.args.text.now 0 e lines (omega arith) (inl refl);
  scanned = c.requires.scanned;
  begun = λ some. absurd (omega arith);
}

pub returns-then-segment-rest-clause-none : goal.returns-then-segment-rest-clause-none
returns-then-segment-rest-clause-none g c =
    let rest = take_rest c.args.text.now c.segments.cut in
    let found = rw rest at c.in-Ok.ensures in
    λ ls e lines. inl (whole_uncut _ ls (drop c.segments.cut c.args.text.now) c.in-Ok.segment.len e lines (found.segment ls e lines) (omega (arith, c.if-segment-rest.true, ap length rest)))

pub segments-preserved : goal.segments-preserved
segments-preserved g c =
    let text = c.args.text.now in
    let cut = c.segments.cut in
    let rest = take_rest text cut in
    let inv = c.segments.invariant in
    let found = rw rest at c.in-Ok.ensures in
    let long = length-drop cut text in
    record {
      within = rw c.new-scan.ensures (omega (arith, found.within, inv.within, long));
      placed = λ ls e lines. placed_more _ _ _ _ _ e lines (inv.placed ls e lines) c.in-Ok.segment.len found.segment (omega (arith, c.if-segment-rest.false, found.within, ap length rest));
      scanned = rw c.new-scan.ensures (scan_none g.T.Item.item_type (drop (cut + c.in-Ok.segment.len) text));
      begun = λ some. c.new-scan.ensures;
    }
