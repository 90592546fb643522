use Rattle.souper_graph.proofs.Sameness.Renumbered.{ordered}
use Rattle.souper_graph.proofs.Sameness.Renaming.{renamed-graph, graph-renamed, up-to-itself, renamed-order, renamed-again, renamed-well}
use Rattle.souper_graph.proofs.laws.law_of_names.Goals as goal

pub returns : goal.returns
returns c = record {
  same = λ a b wa wb. (graph-renamed a b (ordered a wa) (ordered b wb), renamed-graph a b (ordered a wa) (ordered b wb));
  kept = up-to-itself;
  order = renamed-order;
  again = renamed-again;
  well_formed = renamed-well;
}
