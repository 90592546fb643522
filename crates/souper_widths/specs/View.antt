-- Definitions. The widths that the code returns, as a map.
use Rattle.souper_widths.specs.declared.item_widths.Widths.{Widths}
use Rattle.souper_widths.specs.Maps.{WidthMap}

abbrev pub view_widths : Widths → WidthMap
view_widths w = record { results = w.results.items; operands = w.operands.items; root = w.root }
