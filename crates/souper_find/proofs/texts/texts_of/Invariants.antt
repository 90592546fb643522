-- the texts so far are there
use Rattle.std.proofs.Common.{◌≡◌, map, take}
use Rattle.std.specs.List.{AllByRecursion}
use Rattle.std.specs.String.{string_bytes}
use Rattle.souper_graph.specs.View.{view_replacement}
use Rattle.souper_graph.specs.WellFormed.{WellFormed}
use Rattle.souper_records.specs.Uniques.{text_by}
use Rattle.souper_find.proofs.texts.texts_of.Given as goal

abbrev pub invariant-loop-item : goal.invariant-loop-item
invariant-loop-item l = AllByRecursion WellFormed (map view_replacement l.items) → map string_bytes l.texts.items ≡ map (text_by l.rename) (map view_replacement (take l.item-index l.items))
