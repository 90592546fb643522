use Rattle.souper_ir.proofs.Nodes.Ahead.{comma_read}
use Rattle.souper_ir.proofs.parse.operands.optional_type.Goals as goal

pub returns-then-comma_comes : goal.returns-then-comma_comes
returns-then-comma_comes c = comma_read c.args.parser.now c.take_mark.new.self (c.take_mark.ensures.kept c.if-not-take_mark.true) (c.comma_comes.ensures c.if-comma_comes.true)
