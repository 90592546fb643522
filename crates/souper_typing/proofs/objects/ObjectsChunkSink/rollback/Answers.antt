use Rattle.souper_typing.proofs.objects.ObjectsChunkSink.rollback.Goals as goal

pub returns : goal.returns
returns g c = λ first items held. (let m = c.rollback.ensures first.rows items (held.1, held.2) in (held.0, m.0, m.1))
