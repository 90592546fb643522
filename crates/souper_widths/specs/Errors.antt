-- Definitions. What the errors say of an item.
use Rattle.souper_graph.specs.Values.{Item}
use Rattle.souper_graph.specs.WellFormed.{WellFormed}
use Rattle.souper_graph.specs.Flaws.{IsFirstFlaw}
use Rattle.souper_widths.specs.declared.flaws.WidthsError.{WidthsError}
use Rattle.souper_widths.specs.declared.flaws.WidthsError.TheVariants.{NotWellFormed, Flawed, OutOfMemory}
use Rattle.souper_widths.specs.Flaws.{IsFirstWidthFlaw}

-- the first flaw of an item that is not well formed, the first of one that has no widths, or want of memory
abbrev pub IsWidthsError : Item → WidthsError → Type 0
IsWidthsError a (NotWellFormed flaw) = IsFirstFlaw a flaw
IsWidthsError a (Flawed flaw) = WellFormed a × IsFirstWidthFlaw a flaw
IsWidthsError a OutOfMemory = Unit {0}
