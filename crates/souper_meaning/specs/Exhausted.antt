-- Definitions. What trying all worlds says of a replacement.
use Rattle.std.specs.Prelude.{◌≡◌, ℕ, ◌-◌, ◌^◌, ◌<◌, ◌≤◌, min, Bool, List, length}
use Rattle.souper_graph.specs.Values.{Item}
use Rattle.souper_graph.specs.WellFormed.{WellFormed}
use Rattle.souper_widths.specs.Maps.{WidthMap}
use Rattle.souper_widths.specs.Nodes.{MarkNeeded}
use Rattle.souper_widths.specs.Typed.{Typed}
use Rattle.souper_meaning.specs.declared.exhausting.Verdict.{Verdict}
use Rattle.souper_meaning.specs.declared.exhausting.Verdict.TheVariants.{Sound as sound_variant, Refuted as refuted_variant, Vacuous as vacuous_variant, TooMany as too_many_variant}
use Rattle.souper_meaning.specs.Worlds.{World, Mode, IsWorld}
use Rattle.souper_meaning.specs.View.{view_world}
use Rattle.souper_meaning.specs.Statements.{out}
use Rattle.souper_meaning.specs.Sound.{Meets, RefinesEnding, Sound, Vacuous}
use Rattle.souper_meaning.specs.Evaluable.{IsEvaluable}
use Rattle.souper_meaning.specs.Numbering.{world_count, IsWorldNumber}
use Rattle.souper_meaning.specs.Stepping.{HasPlaces}

-- the result refines the replaced root
abbrev pub RefinesIn : Item → WidthMap → World → Type 0
RefinesIn a m x = RefinesEnding m (out a m x) a.ending

-- no world with a number below n refutes the item
abbrev pub AllRefineBelow : Mode → Item → WidthMap → List Bool → ℕ → Type 0
AllRefineBelow mode a m marks n = (k : ℕ) (x : World) → k < n → IsWorldNumber mode a m marks k x → Meets a m x → RefinesIn a m x

-- no world with a number below n meets its facts and conditions
abbrev pub NoneMeetsBelow : Mode → Item → WidthMap → List Bool → ℕ → Type 0
NoneMeetsBelow mode a m marks n = (k : ℕ) (x : World) → k < n → IsWorldNumber mode a m marks k x → ¬ Meets a m x

-- The world is the first that refutes the item: it meets the facts and conditions, and the result does not refine the replaced root.
pub record IsFirstRefuting (mode : Mode) (a : Item) (m : WidthMap) (marks : List Bool) (x : World) : Type 0 where
  pub world : IsWorld mode a m x
  pub meets : Meets a m x
  pub fails : ¬ RefinesIn a m x
  pub number : ℕ
  pub inside : number < world_count mode a m marks
  pub numbered : IsWorldNumber mode a m marks number x
  pub before : AllRefineBelow mode a m marks number

-- some world meets the facts and conditions
pub record SomeMeets (mode : Mode) (a : Item) (m : WidthMap) : Type 0 where
  pub example : World
  pub world : IsWorld mode a m example
  pub meets : Meets a m example

-- the verdict is right, if the worlds are not too many
abbrev pub IsVerdictWithin : Mode → Item → WidthMap → List Bool → Verdict → Type 0
IsVerdictWithin mode a m marks sound_variant = Sound mode a m × SomeMeets mode a m
IsVerdictWithin mode a m marks (refuted_variant w) = HasPlaces (length a.statements) (view_world w) × IsFirstRefuting mode a m marks (view_world w)
IsVerdictWithin mode a m marks vacuous_variant = Vacuous mode a m
IsVerdictWithin mode a m marks (too_many_variant n) = ⊥

-- the worlds are too many exactly if they are more than the limit; their number is capped
abbrev pub IsVerdictBy : Mode → Item → WidthMap → List Bool → ℕ → Verdict → Type 0
IsVerdictBy mode a m marks limit (too_many_variant n) = (limit < world_count mode a m marks) × (n ≡ min (world_count mode a m marks) (2 ^ 128 - 1))
IsVerdictBy mode a m marks limit v = (world_count mode a m marks ≤ limit) × IsVerdictWithin mode a m marks v

-- the verdict on an item, by its widths and the marks of its needed statements
pub record IsVerdict (mode : Mode) (a : Item) (limit : ℕ) (v : Verdict) : Type 0 where
  pub widths : WidthMap
  pub marks : List Bool
  pub well_formed : WellFormed a
  pub typed : Typed a widths
  pub evaluable : IsEvaluable a widths
  pub marked : MarkNeeded a marks
  pub verdict : IsVerdictBy mode a widths marks limit v
