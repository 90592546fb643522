-- Definitions. The widths of an item: the one solution of its equations, if its shape and its limits allow one.
use Rattle.std.specs.Prelude.{◌≡◌, ℕ, length}
use Rattle.souper_graph.specs.declared.ast.flaws.FlawLocation.{FlawLocation}
use Rattle.souper_graph.specs.Values.{Item}
use Rattle.souper_graph.specs.Uses.{NeededIn}
use Rattle.souper_widths.specs.Maps.{WidthMap, result_width, operand_width}
use Rattle.souper_widths.specs.Places.{IsPlace, SolvesAt}
use Rattle.souper_widths.specs.Shape.{HasShape}
use Rattle.souper_widths.specs.Limits.{KeepsLimits}

-- the equations hold at each place, and statements that the item does not need have no widths
pub record HasWidths (a : Item) (m : WidthMap) : Type 0 where
  pub results : length m.results ≡ length a.statements
  pub operands : length m.operands ≡ length a.statements
  pub holds : (l : FlawLocation) → IsPlace a l → SolvesAt a m l
  pub unneeded : (p : ℕ) → ¬ NeededIn a p → (result_width m p ≡ 0) × (operand_width m p ≡ 0)

pub record Typed (a : Item) (m : WidthMap) : Type 0 where
  pub shape : HasShape a
  pub has : HasWidths a m
  pub only : (n : WidthMap) → HasWidths a n → n ≡ m
  pub limits : KeepsLimits a m
