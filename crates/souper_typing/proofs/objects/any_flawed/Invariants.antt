-- whether one of the rows so far is of an item without widths
use Rattle.std.proofs.Common.{◌≡◌, take}
use Rattle.std.specs.List.{list_any}
use Rattle.souper_typing.specs.Objects.{is_flawed_row}
use Rattle.souper_typing.proofs.objects.any_flawed.Given as goal

abbrev pub invariant-loop-row : goal.invariant-loop-row
invariant-loop-row l = l.any ≡ list_any is_flawed_row (take l.row-index l.rows)
