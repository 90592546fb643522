use Rattle.std.proofs.lemmas.Result.{on_ok_weaker}
use Rattle.souper_typing.proofs.objects.ObjectsSink.take.Goals as goal

pub returns : goal.returns
returns g c = on_ok_weaker c.take.result (λ more first items held. (let m = more first.rows items (held.1, held.2) in (held.0, m.0, m.1))) c.take.ensures
