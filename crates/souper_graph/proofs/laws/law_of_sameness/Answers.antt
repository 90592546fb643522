use Rattle.souper_graph.proofs.Sameness.Renumbered.{same-renumbered, renumbered-same, renumbered-well, renumbered-again, renumbered-graph, unneeded-well, unneeded-same, printed-exact}
use Rattle.souper_graph.proofs.laws.law_of_sameness.Goals as goal

pub returns-clause-same : goal.returns-clause-same
returns-clause-same c = λ a b wa wb. (same-renumbered a b wa wb, renumbered-same a b wa wb)

pub returns-clause-well_formed : goal.returns-clause-well_formed
returns-clause-well_formed c = renumbered-well

pub returns-clause-again : goal.returns-clause-again
returns-clause-again c = renumbered-again

pub returns-clause-graph : goal.returns-clause-graph
returns-clause-graph c = renumbered-graph

pub returns-clause-unneeded : goal.returns-clause-unneeded
returns-clause-unneeded c = λ a b wa s. (unneeded-well a b wa s, unneeded-same a b wa s)

pub returns-clause-exact : goal.returns-clause-exact
returns-clause-exact c = printed-exact
