use Rattle.std.proofs.Common.{map, take}
use Rattle.souper_graph.specs.View.{view_attribute}
use Rattle.souper_embedding.specs.Embedding.{HasFacts}
use Rattle.souper_embedding.proofs.facts.has_facts.Given as goal

abbrev pub invariant-loop-fact : goal.invariant-loop-fact
invariant-loop-fact l = HasFacts (map view_attribute (take l.fact-index l.wanted)) (map view_attribute l.given)
