use Rattle.std.proofs.Common.{[]}
use Rattle.souper_items.proofs.hint.begins_with.Goals as goal

pub read_part-read-requires : goal.read_part-read-requires
read_part-read-requires g c = (_, [], c.new-parts.ensures.begins _ _)
