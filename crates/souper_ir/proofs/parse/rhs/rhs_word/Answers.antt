use Rattle.souper_ir.proofs.Nodes.Ends.{at_end}
use Rattle.souper_ir.proofs.parse.rhs.rhs_word.Goals as goal

pub refuse_end-requires-clause-ended : goal.refuse_end-requires-clause-ended
refuse_end-requires-clause-ended c = at_end c.take_word.new.self c.token_comes.new.parser (rw c.if-not-branch.true at c.in_ok-token_comes-in-None.ensures.next.0)
