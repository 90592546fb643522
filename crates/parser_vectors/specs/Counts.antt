-- Definitions. The number of left-hand sides of a stream.
use Rattle.std.specs.Prelude.{◌≡◌, ℕ, List, length, Option}
use Rattle.std.specs.Io.KnownBytes.{Consumes}
use Rattle.souper_graph.specs.Values.{Item}
use Rattle.souper_graph.specs.Syntax.Spelling.{TextSpells, left_hand_side}
use Rattle.souper_stream.specs.Reading.{AreAll}

-- the bytes read from the reader spell `count` left-hand sides
abbrev pub CountsItems : Option (List ℕ) → Option (List ℕ) → ℕ → Type 0
CountsItems before after count = (read : List ℕ) × (items : List Item) × Consumes before after read × AreAll before read × TextSpells left_hand_side read items × (count ≡ length items)
