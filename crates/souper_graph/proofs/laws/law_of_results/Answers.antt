use Rattle.souper_graph.specs.Renaming.{nameless}
use Rattle.souper_graph.proofs.Results.{law-well, law-same, law-up-to-names, law-cands}
use Rattle.souper_graph.proofs.laws.law_of_results.Goals as goal

pub returns-clause-well_formed : goal.returns-clause-well_formed
returns-clause-well_formed c = law-well

pub returns-clause-same : goal.returns-clause-same
returns-clause-same c = law-same

pub returns-clause-up_to_names : goal.returns-clause-up_to_names
returns-clause-up_to_names c = law-up-to-names

pub returns-clause-cands : goal.returns-clause-cands
returns-clause-cands c = law-cands

pub returns-clause-cands_up_to_names : goal.returns-clause-cands_up_to_names
returns-clause-cands_up_to_names c = λ a b. law-cands (nameless a) (nameless b)
