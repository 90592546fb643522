use Rattle.souper_stream.proofs.Buffers.{Told}
use Rattle.souper_stream.proofs.starts.starts_in.Given as goal

abbrev pub invariant-loop-offset : goal.invariant-loop-offset
invariant-loop-offset l = Told l.before l.part l.offsets l.offset-index l.passed l.lines l.starts.items
