-- The replacements that are left are well formed. The store has entries, and these are those of all replacements once the ones left were added.
use Rattle.std.proofs.Common.{map, List, []}
use Rattle.std.specs.List.{AllByRecursion}
use Rattle.souper_graph.specs.View.{view_replacement}
use Rattle.souper_graph.specs.WellFormed.{WellFormed}
use Rattle.souper_lookup.specs.Stored.{Entry, AreAdded, Stores}
use Rattle.examples_using.proofs.looking_up.store_of.Given as goal

abbrev pub invariant-loop-replacement : goal.invariant-loop-replacement
invariant-loop-replacement l = AllByRecursion WellFormed (map view_replacement l.fn.replacements.items)
    → AllByRecursion WellFormed (map view_replacement l.replacement-iterator.rest.items) × ((entries : List Entry) × Stores entries l.store
    × ((final : List Entry) → AreAdded (map view_replacement l.replacement-iterator.rest.items) entries final → AreAdded (map view_replacement l.fn.replacements.items) [] final))
