-- Parts of the stream were read.
use Rattle.std.proofs.Common.{List}
use Rattle.std.specs.Prelude.{ℕ, Option}
use Rattle.souper_stream.specs.Segments.{Line}
use Rattle.souper_stream.specs.Parts.{HasParts}
use Rattle.generated_items.proofs.recovered.recovered.Given as goal

abbrev pub invariant-loop-turn : goal.invariant-loop-turn
invariant-loop-turn g l = (start : Option (List ℕ)) × (ps : List (List Line)) × HasParts g.T.Item.item_type start (g.R.Read.remaining l.reader) ps l.parts
