use Rattle.std.proofs.Common.{rules}
use Rattle.std.proofs.lemmas.Nat.{le_bytes_2}
use Rattle.souper_code.specs.Codes.{code_of_u16}
use Rattle.souper_code.proofs.decode.leaves.u16_of.Goals as goal

pub returns-clause-code : goal.returns-clause-code
unfolding code_of_u16
returns-clause-code c = le_bytes_2 c.args.bytes _ (search rules) (search rules) c.from_le_bytes.ensures
