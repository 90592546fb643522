use Rattle.std.proofs.Common.{◌≡◌, ℕ, List, [], length}
use Rattle.souper_graph.specs.Values.{Item}
use Rattle.souper_ir.specs.ItemRuns.{ItemsTaken}
use Rattle.souper_ir.specs.Sinks.{TakesOver}
use Rattle.souper_ir.specs.Starts.{SpellEachFrom, Keeps}
use Rattle.souper_ir.proofs.parse.item.items.Given as goal

abbrev pub invariant-loop-start : goal.invariant-loop-start
invariant-loop-start g l = (items : List Item)
    × (so : ItemsTaken g.T.Item.item_type items l.fn.parser l.parser)
    × TakesOver g.S.Sink.holds items l.fn.sink l.sink
    × (items ≡ [] → l.sink ≡ l.fn.sink)
    × (starts : List ℕ) × SpellEachFrom g.T.Item.item_type items starts so.used × Keeps l.fn.kept l.kept starts

abbrev pub decreases-loop-start : goal.decreases-loop-start
decreases-loop-start g l = length l.parser.tokens
