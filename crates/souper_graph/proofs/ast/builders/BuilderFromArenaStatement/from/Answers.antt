use Rattle.std.proofs.Common.{map}
use Rattle.souper_graph.specs.View.{view_statement}
use Rattle.souper_graph.proofs.ast.builders.BuilderFromArenaStatement.from.Goals as goal

pub invariant_of-result : goal.invariant_of-result
invariant_of-result g c = c.new-taken.ensures (map view_statement c.args.statements)
