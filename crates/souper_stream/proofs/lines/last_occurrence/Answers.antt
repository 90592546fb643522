use Rattle.souper_stream.proofs.Cutting.{absent_nowhere}
use Rattle.souper_stream.proofs.lines.last_occurrence.Goals as goal

pub returns-in-None-clause-none : goal.returns-in-None-clause-none
returns-in-None-clause-none g c = λ zero e. absent_nowhere c.args.bytes.now c.args.word.now (rw c.as_bytes.ensures.value at c.in-None.ensures)
