use Rattle.souper_graph.proofs.TakenNames.{knows-nothing}
use Rattle.souper_graph.proofs.ast.taken_names.TakenNames.new.Goals as goal

pub returns : goal.returns
returns c = λ ss. knows-nothing ss c.new-names.result c.new-names.ensures.empty
