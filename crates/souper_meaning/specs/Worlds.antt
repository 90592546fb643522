-- Definitions. Worlds: what one run gives to inputs, blocks and freezes.
use Rattle.std.specs.Prelude.{ℕ, ◌^◌, ◌<◌, List, Option, Some, slice_get, slice_index, slice_index_or}
use Rattle.souper_graph.specs.Values.{PlainRhs, var, block, phi, reserved_inst, reserved_const, instruction, PlainStatement, assigned, Item}
use Rattle.souper_graph.specs.declared.ast.instructions.Instruction.{Instruction}
use Rattle.souper_graph.specs.declared.ast.instructions.Instruction.TheVariants.{Freeze}
use Rattle.souper_graph.specs.Uses.{NeededIn}
use Rattle.souper_widths.specs.Maps.{WidthMap, result_width}
use Rattle.souper_words.specs.declared.outcome.Outcome.{Outcome}
use Rattle.souper_words.specs.declared.outcome.Outcome.TheVariants.{Number, Poison}

-- By position: values of inputs, the predecessor by which a block is reached, and what a freeze of poison gives.
pub record World : Type 0 where
  pub values : List Outcome
  pub predecessors : List ℕ
  pub choices : List ℕ

-- past the end of its list, a value is poison, and a number 0
abbrev pub value_at : World → ℕ → Outcome
value_at x p = slice_index_or x.values p Poison

abbrev pub predecessor_at : World → ℕ → ℕ
predecessor_at x p = slice_index x.predecessors p

abbrev pub choice_at : World → ℕ → ℕ
choice_at x p = slice_index x.choices p

-- inputs are values, or a `var` and a `reservedinst` may be poison too
pub data Mode : Type 0 where
  value_inputs : Mode
  poison_inputs : Mode

abbrev pub IsNumberBelow : ℕ → Outcome → Type 0
IsNumberBelow n (Number k) = k < n
IsNumberBelow n x = ⊥

abbrev pub IsInput : Mode → ℕ → Outcome → Type 0
IsInput poison_inputs w Poison = Unit {0}
IsInput m w x = IsNumberBelow (2 ^ w) x

-- a freeze has a choice
abbrev pub GivesInstruction : ℕ → World → ℕ → Instruction → Type 0
GivesInstruction w x p (Freeze a) = choice_at x p < 2 ^ w
GivesInstruction w x p i = Unit {0}

-- what the world gives to the right side of an assignment at position p, whose result has w bits
abbrev pub GivesRhs : Mode → ℕ → World → ℕ → PlainRhs → Type 0
GivesRhs m w x p var = IsInput m w (value_at x p)
GivesRhs m w x p reserved_inst = IsInput m w (value_at x p)
GivesRhs m w x p reserved_const = IsNumberBelow (2 ^ w) (value_at x p)
GivesRhs m w x p (block b) = predecessor_at x p < b.predecessors
GivesRhs m w x p (instruction i) = GivesInstruction w x p i
GivesRhs m w x p (phi f) = Unit {0}

abbrev pub GivesStatement : Mode → ℕ → World → ℕ → Option PlainStatement → Type 0
GivesStatement m w x p (Some (assigned a)) = GivesRhs m w x p a.value
GivesStatement m w x p s = Unit {0}

-- what it gives to the statement at position p of an item of these widths
abbrev pub GivesAt : Mode → Item → WidthMap → World → ℕ → Type 0
GivesAt m a widths x p = GivesStatement m (result_width widths p) x p (slice_get a.statements p)

-- a world of the item: each needed input has a value, each needed block a predecessor, each needed freeze a choice
abbrev pub IsWorld : Mode → Item → WidthMap → World → Type 0
IsWorld m a widths x = (p : ℕ) → NeededIn a p → GivesAt m a widths x p
