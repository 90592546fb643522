use Rattle.souper_errors.proofs.Shown.Lines.{direct_is}
use Rattle.souper_errors.proofs.error.RefusalDisplay.fmt.Goals as goal

pub returns-in-None-clause-writes : goal.returns-in-None-clause-writes
returns-in-None-clause-writes g c plain ok =
    let shown = c.write.ensures.writes plain ok in
    let written = rw (direct_is c.args.self.now.offset c.as_str-message.result.now, c.as_str-message.ensures.value) at shown in
    rw c.in-None.is written
