use Rattle.souper_records.proofs.rows.RowSinkChunkSink.rollback.Goals as goal

pub returns : goal.returns
returns g c = λ first items held. (held.0, rw c.clear.ensures.items tt)
