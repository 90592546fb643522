use Rattle.std.proofs.Common.{rules}
use Rattle.souper_meaning.specs.Sampling.{output}
use Rattle.souper_meaning.proofs.generator.output_of.Goals as goal

pub returns : goal.returns
unfolding output
returns c = search rules
