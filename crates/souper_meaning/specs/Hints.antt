-- Definitions. What the code has of an item for all tries.
use Rattle.std.specs.Prelude.{◌≡◌, ℕ, ◌<◌, length, slice_index_or}
use Rattle.souper_graph.specs.Values.{Item}
use Rattle.souper_widths.specs.Maps.{WidthMap}
use Rattle.souper_meaning.specs.declared.drawing.Hints.{Hints}
use Rattle.souper_meaning.specs.Pins.{unsaid, numbers_at}
use Rattle.souper_meaning.specs.Sampling.{edges_of}

-- the edges by constants, and the numbers that conditions leave of each position
pub record AreHints (a : Item) (m : WidthMap) (h : Hints) : Type 0 where
  pub edges : h.edges.items ≡ edges_of a
  pub numbers : (p : ℕ) → p < length a.statements → slice_index_or h.numbers.items p unsaid ≡ numbers_at a m p
