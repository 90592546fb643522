use Rattle.souper_format.proofs.same_run.items_of_read.Goals as goal

pub returns-in-Ok-clause-refused : goal.returns-in-Ok-clause-refused
returns-in-Ok-clause-refused c = rw c.in-Ok.is (rw c.as_str.ensures.value at c.read_items.ensures.refused)
