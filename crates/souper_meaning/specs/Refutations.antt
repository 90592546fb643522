-- Definitions. What a search for counterexamples says of a replacement.
use Rattle.std.specs.Prelude.{◌≡◌, ℕ, zero, suc, ◌<◌, ◌⊎◌, length}
use Rattle.souper_graph.specs.Values.{Item}
use Rattle.souper_graph.specs.WellFormed.{WellFormed}
use Rattle.souper_widths.specs.Maps.{WidthMap}
use Rattle.souper_widths.specs.Typed.{Typed}
use Rattle.souper_meaning.specs.declared.refuting.Refutation.{Refutation}
use Rattle.souper_meaning.specs.declared.refuting.Refutation.TheVariants.{Refuted, Unrefuted}
use Rattle.souper_meaning.specs.Worlds.{World, Mode}
use Rattle.souper_meaning.specs.View.{view_world}
use Rattle.souper_meaning.specs.Sound.{Meets}
use Rattle.souper_meaning.specs.Evaluable.{IsEvaluable}
use Rattle.souper_meaning.specs.Exhausted.{RefinesIn}
use Rattle.souper_meaning.specs.Stepping.{HasPlaces}
use Rattle.souper_meaning.specs.Sampling.{IsTry}

-- no try below n refutes the item
abbrev pub AllTriesRefine : Mode → Item → WidthMap → ℕ → ℕ → Type 0
AllTriesRefine mode a m seed n = (k : ℕ) (x : World) → k < n → IsTry mode a m seed k x → Meets a m x → RefinesIn a m x

-- The world is the first of the tries that refutes the item: it meets the facts and conditions, and the result does not refine the replaced
-- root.
pub record IsFirstRefutingTry (mode : Mode) (a : Item) (m : WidthMap) (tries seed : ℕ) (x : World) : Type 0 where
  pub number : ℕ
  pub inside : number < tries
  pub tried : IsTry mode a m seed number x
  pub meets : Meets a m x
  pub fails : ¬ RefinesIn a m x
  pub before : AllTriesRefine mode a m seed number

-- try n meets the facts and conditions
pub record MeetsAtTry (mode : Mode) (a : Item) (m : WidthMap) (seed n : ℕ) : Type 0 where
  pub example : World
  pub tried : IsTry mode a m seed n example
  pub meets : Meets a m example

-- it holds of as many of the numbers below n
abbrev pub HoldsTimes : (ℕ → Type 0) → ℕ → ℕ → Type 0
HoldsTimes P zero times = times ≡ 0
HoldsTimes P (suc n) times = (P n × ((before : ℕ) × (times ≡ suc before) × HoldsTimes P n before)) ⊎ (¬ P n × HoldsTimes P n times)

abbrev pub IsRefutationBy : Mode → Item → WidthMap → ℕ → ℕ → Refutation → Type 0
IsRefutationBy mode a m tries seed (Refuted w) = HasPlaces (length a.statements) (view_world w) × IsFirstRefutingTry mode a m tries seed (view_world w)
IsRefutationBy mode a m tries seed (Unrefuted met) = AllTriesRefine mode a m seed tries × HoldsTimes (MeetsAtTry mode a m seed) tries met

-- what the search found of an item, by its widths
pub record IsRefutation (mode : Mode) (a : Item) (tries seed : ℕ) (r : Refutation) : Type 0 where
  pub widths : WidthMap
  pub well_formed : WellFormed a
  pub typed : Typed a widths
  pub evaluable : IsEvaluable a widths
  pub found : IsRefutationBy mode a widths tries seed r
