use Rattle.std.proofs.Common.{refl}
use Rattle.souper_typing.proofs.Holding.{held_none}
use Rattle.souper_typing.proofs.widened.WidenedChunkSink.rollback.Goals as goal

pub returns : goal.returns
returns g c = λ first items held. held_none g.S.Sink.holds first _ held.form held.recover (c.rollback.ensures first.inner _ held.inner) c.clear.ensures.items refl
