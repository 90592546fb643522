use Rattle.std.proofs.Common.{refl}
use Rattle.souper_names.proofs.Tables.{same_table}
use Rattle.souper_names.proofs.table.NameTable.make_room.Goals as goal

pub invariant_of-self : goal.invariant_of-self
invariant_of-self c = same_table c.self.inside _ c.reserve.ensures.items refl c.self.invariant
