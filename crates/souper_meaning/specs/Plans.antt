-- Definitions. What a plan says of its item, and why an item has none.
use Rattle.std.specs.Prelude.{ℕ, ◌<◌, ◌≤◌}
use Rattle.souper_graph.specs.Values.{Item}
use Rattle.souper_graph.specs.Uses.{NeededIn}
use Rattle.souper_graph.specs.WellFormed.{WellFormed}
use Rattle.souper_widths.specs.Maps.{WidthMap}
use Rattle.souper_widths.specs.View.{view_widths}
use Rattle.souper_widths.specs.Nodes.{MarkNeeded}
use Rattle.souper_widths.specs.Typed.{Typed}
use Rattle.souper_widths.specs.Errors.{IsWidthsError}
use Rattle.souper_meaning.specs.declared.plans.Plan.{Plan}
use Rattle.souper_meaning.specs.declared.plans.PlanError.{PlanError}
use Rattle.souper_meaning.specs.declared.plans.PlanError.TheVariants.{Untyped, Hole, TooWide, RootTooWide}
use Rattle.souper_meaning.specs.Sound.{HasNoHole}
use Rattle.souper_meaning.specs.Evaluable.{HasMeaningAt, IsNarrowAt, HoldsNeeded, IsEvaluable}

pub record IsPlan (a : Item) (plan : Plan) : Type 0 where
  pub well_formed : WellFormed a
  pub typed : Typed a (view_widths plan.widths)
  pub marked : MarkNeeded a plan.needed.items
  pub evaluable : IsEvaluable a (view_widths plan.widths)

-- it holds at each needed position below n
abbrev pub HoldsBelow : Item → (ℕ → Type 0) → ℕ → Type 0
HoldsBelow a P n = (p : ℕ) → NeededIn a p → p < n → P p

-- the first needed position at which it does not hold
pub record IsFirstWithout (a : Item) (P : ℕ → Type 0) (p : ℕ) : Type 0 where
  pub needed : NeededIn a p
  pub before : HoldsBelow a P p
  pub fails : ¬ P p

-- The first hole; the first statement of more than 128 bits, if there is no hole; or only the last lines have more.
abbrev pub IsRefusal : Item → WidthMap → PlanError → Type 0
IsRefusal a m (Untyped e) = ⊥
IsRefusal a m (Hole p) = IsFirstWithout a (HasMeaningAt a) p
IsRefusal a m (TooWide p) = HasNoHole a × IsFirstWithout a (IsNarrowAt m) p
IsRefusal a m RootTooWide = HasNoHole a × HoldsNeeded a (IsNarrowAt m) × ¬ (m.root ≤ 128)

abbrev pub IsPlanError : Item → PlanError → Type 0
IsPlanError a (Untyped e) = IsWidthsError a e
IsPlanError a e = WellFormed a × ((m : WidthMap) × Typed a m × IsRefusal a m e)
