use Rattle.souper_graph.specs.View.{view_replacement}
use Rattle.souper_graph.specs.Syntax.Spelling.{replacement}
use Rattle.souper_graph.specs.Endings.{replacement_ending}
use Rattle.souper_graph.proofs.ast.items.Replacement.to_text.Goals as goal

pub returns-clause-printed : goal.returns-clause-printed
returns-clause-printed c = c.to_text.ensures.printed replacement (view_replacement c.args.self.now) c.parts.ensures (replacement_ending c.args.self.now)
