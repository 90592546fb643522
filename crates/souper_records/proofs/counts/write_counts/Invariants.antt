-- the records so far were written, but for the last ones
use Rattle.std.specs.String.{string_bytes}
use Rattle.souper_watched.specs.Watching.{watched_inner}
use Rattle.souper_records.proofs.Seeing.{Taken}
use Rattle.souper_records.proofs.counts.write_counts.Given as goal

abbrev pub invariant-loop-text : goal.invariant-loop-text
invariant-loop-text g l = Taken l.fn.layout l.fn.summary (g.W.Write.contents (watched_inner l.fn.out)) (g.W.Write.contents (watched_inner l.out)) l.fn.seen.counts.entries l.text-iterator (string_bytes l.records)
