use Rattle.std.proofs.Common.{rules}
use Rattle.souper_format.proofs.run.read_text.Goals as goal

pub returns-in-Err-from_utf8-clause-fault : goal.returns-in-Err-from_utf8-clause-fault
returns-in-Err-from_utf8-clause-fault g c =
    (c.loop-turn.bytes.items, search rules, λ text. let held = c.in-Err-from_utf8.ensures.succeeds text in cc)
