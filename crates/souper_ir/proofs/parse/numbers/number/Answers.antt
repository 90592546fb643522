use Rattle.souper_ir.proofs.Nodes.Numerals.{number_read, number_refused}
use Rattle.souper_ir.proofs.parse.numbers.number.Goals as goal

pub returns-in-Ok : goal.returns-in-Ok
returns-in-Ok c = number_read c.args.word.now c.in-Ok.value c.in-Ok.ensures.value.0

pub returns-in-Err : goal.returns-in-Err
returns-in-Err c = number_refused c.args.word.now c.in-Err.ensures.value.0
