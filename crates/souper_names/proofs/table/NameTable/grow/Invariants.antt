use Rattle.std.proofs.Common.{◌≡◌, take}
use Rattle.souper_names.proofs.table.NameTable.grow.Given as goal

abbrev pub invariant-loop-index : goal.invariant-loop-index
invariant-loop-index l = l.table ≡ take l.index l.fn.self
