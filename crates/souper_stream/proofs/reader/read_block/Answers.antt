use Rattle.std.proofs.Common.{ℕ, ◌≡◌, length, take, drop, sym, ◌∙◌, ap, subst, arith, eqb-true, take_all, length-take}
use Rattle.std.specs.Io.{appended_bytes}
use Rattle.std.specs.Io.BufRead.{FillKeeps}
use Rattle.std.proofs.Math.Seq.{take-append_seam, drop-append_seam}
use Rattle.std.proofs.BufReadLemmas.{Consumes_shown}
use Rattle.souper_stream.proofs.reader.read_block.Goals as goal

pub returns-clause-read : goal.returns-clause-read
returns-clause-read g c =
    let n = c.min-len.result in
    let old = c.args.bytes.now.items in
    let shown = c.in-Ok.shown.now in
    let rested = c.fill_buf.follows.lender-at-none in
    let filled = subst (FillKeeps _ (g.R.Read.remaining rested) (g.R.BufRead.consumable_len rested)) c.in-Ok.is c.fill_buf.follows.holds-at-none in
    let moved = Consumes_shown (g.R.Read.remaining c.args.reader.now) _ _ _ shown n (omega arith) c.in-Ok.ensures.front c.in-Ok.ensures.end filled.0 filled.1 c.consume.ensures.bytes in
    let items = c.in_ok-extend_from_slice.ensures.items in
    let same : appended_bytes old c.extend_from_slice.new.self.items ≡ take n shown = ap (drop (length old)) items ∙ drop-append_seam old (take n shown) in
    record {
      kept = rw items (take-append_seam old (take n shown));
      consumed = rw same moved.0;
      all_read = λ e. (let none = eqb-true (length shown) 0 (sym c.is_empty-has_ended.ensures ∙ (let at = e in cc)) in rw same (grind (arith, take_all {A = ℕ})));
    }

pub returns-clause-short : goal.returns-clause-short
returns-clause-short g c =
    let n = c.min-len.result in
    let shown = c.in-Ok.shown.now in
    let same = ap (drop (length c.args.bytes.now.items)) c.in_ok-extend_from_slice.ensures.items ∙ drop-append_seam c.args.bytes.now.items (take n shown) in
    omega (arith, ap length same, length-take n shown, c.min-len.ensures)
