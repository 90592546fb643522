-- the records so far are there
use Rattle.std.proofs.Common.{◌≡◌, ◌++◌, flat_map, take, string_bytes}
use Rattle.souper_records.proofs.output.VecShown.append_records.Given as goal

abbrev pub invariant-loop-item : goal.invariant-loop-item
invariant-loop-item g l = string_bytes l.out ≡ string_bytes l.fn.out ++ flat_map (g.V.Shown.as_records l.layout) (take l.item-index l.self.items)
