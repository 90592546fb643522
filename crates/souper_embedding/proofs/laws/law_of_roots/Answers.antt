use Rattle.souper_embedding.proofs.RootGraphs.{roots-graph, graph-roots, embeds-roots, needs-assignments}
use Rattle.souper_embedding.proofs.laws.law_of_roots.Goals as goal

pub returns-clause-same : goal.returns-clause-same
returns-clause-same c = λ ss ts i j ws wt. (graph-roots ss ts i.value j.value (needs-assignments ss i ws) (needs-assignments ts j wt), roots-graph ss ts i.value j.value (needs-assignments ss i ws) (needs-assignments ts j wt))

pub returns-clause-embedded : goal.returns-clause-embedded
returns-clause-embedded c = embeds-roots
