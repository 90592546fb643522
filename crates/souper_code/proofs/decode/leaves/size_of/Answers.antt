use Rattle.std.proofs.Common.{rules}
use Rattle.std.proofs.lemmas.Nat.{le_bytes_8}
use Rattle.souper_code.specs.Codes.{code_of_size}
use Rattle.souper_code.proofs.decode.leaves.size_of.Goals as goal

pub returns-clause-code : goal.returns-clause-code
unfolding code_of_size
returns-clause-code c = le_bytes_8 c.args.bytes _ (search rules) (search rules) c.from_le_bytes.ensures
