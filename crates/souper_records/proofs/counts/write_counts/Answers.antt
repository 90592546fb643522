use Rattle.std.proofs.Common.{[], string_bytes}
use Rattle.std.proofs.KnownBytes.{Appends-nil}
use Rattle.souper_records.proofs.Prelude.{stream, watched_inner}
use Rattle.std.proofs.lemmas.Result.{err_from_is_err_and, on_ok_weaker}
use Rattle.souper_records.proofs.Seeing.{taken_more, taken_written, taken_all, taken_begun}
use Rattle.souper_records.proofs.counts.write_counts.Goals as goal

pub loop-text-init : goal.loop-text-init
loop-text-init g c = record { written = []; kept = []; whole = (cc); given = Appends-nil _; is = c.new-records.ensures.bytes }

pub loop-text-preserved : goal.loop-text-preserved
loop-text-preserved g c = taken_more (c.in-Some.text.now, c.in-Some.count.now) c.in-Some.ensures.steps (rw c.as_str.ensures.value at c.in_ok-append_summary.ensures) c.loop-text.invariant

pub loop-text-preserved-then-len-ge-CHUNK : goal.loop-text-preserved-then-len-ge-CHUNK
loop-text-preserved-then-len-ge-CHUNK g c =
    taken_written (taken_more (c.in-Some.text.now, c.in-Some.count.now) c.in-Some.ensures.steps (rw c.as_str.ensures.value at c.in_ok-append_summary.ensures) c.loop-text.invariant) c.in_ok-write_records.ensures.written c.clear.ensures.bytes

pub returns-in_err-append_summary-clause-stopped : goal.returns-in_err-append_summary-clause-stopped
returns-in_err-append_summary-clause-stopped g c =
    let p = err_from_is_err_and c.from_residual.result c.from_residual.ensures.1 in
    let out = stream g.W.Write.contents c.args.out.now c.loop-text.out in
    rw (p.1, p.2) (λ k items seen. taken_begun c.args.layout c.args.summary items k c.args.seen.now c.loop-text.text-iterator out (string_bytes c.loop-text.records) seen c.loop-text.invariant)

pub returns-clause-written : goal.returns-clause-written
returns-clause-written g c =
    let out = stream g.W.Write.contents c.args.out.now c.write_records-2.new.out in
    on_ok_weaker c.write_records-2.result (λ given k items seen. taken_all c.args.layout c.args.summary items k c.args.seen.now out (g.W.Write.contents (watched_inner c.loop-text.out)) (string_bytes c.loop-text.records) seen (rw c.in-None.ensures.steps.0 at c.loop-text.invariant) given) c.write_records-2.ensures.written
