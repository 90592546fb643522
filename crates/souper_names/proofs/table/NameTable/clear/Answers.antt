use Rattle.souper_names.proofs.Tables.{empty_table}
use Rattle.souper_names.proofs.table.NameTable.clear.Goals as goal

pub invariant_of-self-then-not-is_empty : goal.invariant_of-self-then-not-is_empty
invariant_of-self-then-not-is_empty c = empty_table _ 64 c.clear.ensures.items c.new-then-not-is_empty.ensures
