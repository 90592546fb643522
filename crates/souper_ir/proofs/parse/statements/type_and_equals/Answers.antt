use Rattle.souper_ir.proofs.Nodes.Ahead.{equals_read}
use Rattle.souper_ir.proofs.parse.statements.type_and_equals.Goals as goal

pub returns-then-take_mark : goal.returns-then-take_mark
returns-then-take_mark c = equals_read c.args.parser.now c.take_mark.new.self (c.take_mark.ensures.taken c.if-take_mark.true) (c.take_mark.ensures.seen c.if-take_mark.true)
