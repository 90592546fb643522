-- Definitions. A world that goes from number to number in place.
use Rattle.std.specs.Prelude.{◌≡◌, ℕ, ◌^◌, ◌<◌, List, length, Option, Some, slice_get, slice_index}
use Rattle.souper_graph.specs.Values.{PlainRhs, block, PlainStatement, assigned, Item}
use Rattle.souper_graph.specs.Uses.{NeededIn}
use Rattle.souper_widths.specs.Maps.{WidthMap}
use Rattle.souper_words.specs.declared.outcome.Outcome.TheVariants.{Number}
use Rattle.souper_meaning.specs.declared.stepping.NumberedWorld.{NumberedWorld}
use Rattle.souper_meaning.specs.Digits.{AreDigits}
use Rattle.souper_meaning.specs.Worlds.{World, value_at, predecessor_at, choice_at}
use Rattle.souper_meaning.specs.View.{view_world}
use Rattle.souper_meaning.specs.Numbering.{HasDigits}

-- each list of the world has n entries
pub record HasPlaces (n : ℕ) (x : World) : Type 0 where
  pub values : length x.values ≡ n
  pub predecessors : length x.predecessors ≡ n
  pub choices : length x.choices ≡ n

-- the worlds give the same at the position
pub record GiveSameAt (x y : World) (p : ℕ) : Type 0 where
  pub value : value_at y p ≡ value_at x p
  pub predecessor : predecessor_at y p ≡ predecessor_at x p
  pub choice : choice_at y p ≡ choice_at x p

-- a digit of a block has 32 bits at most
abbrev pub AllowsRhsDigit : ℕ → PlainRhs → Type 0
AllowsRhsDigit d (block b) = d < 2 ^ 32
AllowsRhsDigit d r = Unit {0}

abbrev pub AllowsStatementDigit : ℕ → Option PlainStatement → Type 0
AllowsStatementDigit d (Some (assigned a)) = AllowsRhsDigit d a.value
AllowsStatementDigit d s = Unit {0}

-- a world can have the digit at a position
abbrev pub AllowsDigitAt : Item → ℕ → ℕ → Type 0
AllowsDigitAt a p d = NeededIn a p → AllowsStatementDigit d (slice_get a.statements p)

-- digits below the counts are allowed
pub record AreCounts (a : Item) (counts : List ℕ) : Type 0 where
  pub size : length counts ≡ length a.statements
  pub allow : (p d : ℕ) → d < slice_index counts p → AllowsDigitAt a p d

-- the digits are below the counts, and the world has them
pub record IsNumbered (a : Item) (m : WidthMap) (counts : List ℕ) (n : NumberedWorld) : Type 0 where
  pub size : length n.digits.items ≡ length a.statements
  pub places : HasPlaces (length a.statements) (view_world n.world)
  pub below : AreDigits (slice_index counts) (slice_index n.digits.items) (length a.statements)
  pub given : HasDigits a m (view_world n.world) (slice_index n.digits.items)

-- all digits are 0
pub record IsFirst (count : ℕ) (n : NumberedWorld) : Type 0 where
  pub size : length n.digits.items ≡ count
  pub places : HasPlaces count (view_world n.world)
  pub digits : (p : ℕ) → slice_index n.digits.items p ≡ 0
  pub values : (p : ℕ) → p < count → value_at (view_world n.world) p ≡ Number 0
  pub predecessors : (p : ℕ) → predecessor_at (view_world n.world) p ≡ 0
  pub choices : (p : ℕ) → choice_at (view_world n.world) p ≡ 0
