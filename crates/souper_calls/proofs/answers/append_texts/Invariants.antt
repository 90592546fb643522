-- the texts so far are there
use Rattle.std.proofs.Common.{◌≡◌, ◌++◌, map, take}
use Rattle.std.specs.List.{AllByRecursion}
use Rattle.std.specs.String.{string_bytes}
use Rattle.souper_graph.specs.Text.{texts_of}
use Rattle.souper_graph.specs.View.{view_replacement}
use Rattle.souper_graph.specs.WellFormed.{WellFormed}
use Rattle.souper_calls.proofs.answers.append_texts.Given as goal

abbrev pub invariant-loop-item : goal.invariant-loop-item
invariant-loop-item l = AllByRecursion WellFormed (map view_replacement l.items) → string_bytes l.out ≡ string_bytes l.fn.out ++ texts_of (map view_replacement (take l.item-index l.items))
