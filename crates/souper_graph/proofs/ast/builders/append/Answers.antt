use Rattle.souper_graph.proofs.TakenNames.{knows-appended}
use Rattle.souper_graph.proofs.ast.builders.append.Goals as goal

pub returns-clause-known : goal.returns-clause-known
returns-clause-known c = knows-appended c.alloc.result c.args.statements.now c.alloc.new.self c.args.statement c.alloc.ensures.grows c.alloc.ensures.err
