use Rattle.souper_calls.proofs.texts.texts_of_code.Goals as goal

pub returns-in-Lhs-clause-stopped : goal.returns-in-Lhs-clause-stopped
returns-in-Lhs-clause-stopped c = rw c.in-Lhs.is c.write_items.ensures.stopped

pub returns-in-Rhs-clause-stopped : goal.returns-in-Rhs-clause-stopped
returns-in-Rhs-clause-stopped c = rw c.in-Rhs.is c.write_items-in-Rhs.ensures.stopped

pub returns-in-Rep-clause-stopped : goal.returns-in-Rep-clause-stopped
returns-in-Rep-clause-stopped c = rw c.in-Rep.is c.write_items-in-Rep.ensures.stopped
