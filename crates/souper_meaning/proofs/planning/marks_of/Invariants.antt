use Rattle.std.proofs.Common.{take}
use Rattle.souper_widths.specs.Nodes.{HaveMarks}
use Rattle.souper_meaning.proofs.planning.marks_of.Given as goal

-- the positions so far are marked
abbrev pub invariant-loop-id : goal.invariant-loop-id
invariant-loop-id l = HaveMarks l.marks.items (take l.id-index l.ids) l.count
