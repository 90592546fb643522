use Rattle.souper_meaning.proofs.Verdicts.{shifted-first}
use Rattle.souper_meaning.proofs.laws.law_of_first_counterexample.Goals as goal

pub returns : goal.returns
returns c = shifted-first
