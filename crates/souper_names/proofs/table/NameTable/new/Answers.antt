use Rattle.souper_names.proofs.Tables.{empty_table}
use Rattle.souper_names.proofs.table.NameTable.new.Goals as goal

pub invariant_of-result : goal.invariant_of-result
invariant_of-result c = empty_table _ 64 c.new.ensures.items c.new-2.ensures
