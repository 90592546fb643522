use Rattle.std.proofs.Common.{length}
use Rattle.souper_embedding.proofs.Operands.{value-forced}
use Rattle.souper_embedding.proofs.maps.bind_operand.Goals as goal

pub returns-in-Value-y-clause-forced : goal.returns-in-Value-y-clause-forced
returns-in-Value-y-clause-forced c = λ f w e below.
    let v = value-forced f (length c.args.to.now) c.args.x c.args.y c.in-Value.from c.in-Value-y.into c.in-Value.is c.in-Value-y.is e below in
    c.bind_value.ensures.forced f w v.0 v.1
