use Rattle.souper_ir.proofs.Scope.Entered.{inserted}
use Rattle.souper_ir.proofs.parse.names.Names.insert.Goals as goal

pub returns-in-Ok-clause-entered : goal.returns-in-Ok-clause-entered
returns-in-Ok-clause-entered c = inserted c.args.self.now.entries c.insert.new.self c.args.name c.args.entry c.in-Ok.ensures.updates
