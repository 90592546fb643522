use Rattle.souper_embedding.proofs.Examples.{exact, fewer, ordered, repeated, facts, demanded, demanded_any, merged}
use Rattle.souper_embedding.proofs.laws.law_of_embedded_examples.Goals as goal

pub returns-clause-exact : goal.returns-clause-exact
returns-clause-exact c = exact

pub returns-clause-fewer : goal.returns-clause-fewer
returns-clause-fewer c = fewer

pub returns-clause-ordered : goal.returns-clause-ordered
returns-clause-ordered c = ordered

pub returns-clause-repeated : goal.returns-clause-repeated
returns-clause-repeated c = repeated

pub returns-clause-facts : goal.returns-clause-facts
returns-clause-facts c = facts

pub returns-clause-demanded : goal.returns-clause-demanded
returns-clause-demanded c = demanded

pub returns-clause-demanded_any : goal.returns-clause-demanded_any
returns-clause-demanded_any c = demanded_any

pub returns-clause-merged : goal.returns-clause-merged
returns-clause-merged c = merged
