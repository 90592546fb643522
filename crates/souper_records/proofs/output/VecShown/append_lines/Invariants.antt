-- the lines so far are there
use Rattle.std.proofs.Common.{◌≡◌, ◌++◌, flat_map, take, string_bytes}
use Rattle.souper_records.proofs.output.VecShown.append_lines.Given as goal

abbrev pub invariant-loop-item : goal.invariant-loop-item
invariant-loop-item g l = string_bytes l.out ≡ string_bytes l.fn.out ++ flat_map (λ v. g.V.Shown.as_lines l.name (l.start, v)) (take l.item-index l.self.items)
