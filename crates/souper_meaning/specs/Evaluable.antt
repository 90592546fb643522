-- Definitions. Which items can be evaluated with numbers of 128 bits, and what a statement asks of its widths and operands.
use Rattle.std.specs.Prelude.{ℕ, ◌^◌, ◌<◌, ◌≤◌, List, Option, Some, None, slice_get}
use Rattle.std.specs.List.{AllByRecursion}
use Rattle.souper_graph.specs.declared.ast.operands.Operand.{Operand}
use Rattle.souper_graph.specs.declared.ast.operands.Operand.TheVariants.{Value, Constant}
use Rattle.souper_graph.specs.declared.ast.instructions.Instruction.{Instruction}
use Rattle.souper_graph.specs.Instructions.{operands_of}
use Rattle.souper_graph.specs.Values.{PlainAttribute, PlainRhs, var, block, phi, reserved_inst, reserved_const, instruction, PlainStatement, assigned, condition, block_condition, Item}
use Rattle.souper_graph.specs.Uses.{NeededIn}
use Rattle.souper_widths.specs.Maps.{WidthMap, result_width, operand_width}
use Rattle.souper_widths.specs.Limits.{HasBitCount, HasSignBits}
use Rattle.souper_words.specs.declared.outcome.Outcome.{Outcome}
use Rattle.souper_words.specs.declared.words.Word.{Word}
use Rattle.souper_words.specs.Outcomes.{number_or}
use Rattle.souper_words.specs.Words.{AreWidths}
use Rattle.souper_meaning.specs.Worlds.{World, value_at}
use Rattle.souper_meaning.specs.Instructions.{meaning_of}
use Rattle.souper_meaning.specs.Sound.{IsHole, HasNoHole}

-- the statement at a position is no hole
abbrev pub HasMeaningAt : Item → ℕ → Type 0
HasMeaningAt a p = ¬ IsHole (slice_get a.statements p)

-- widths of 128 bits at most
abbrev pub AreNarrow : ℕ → ℕ → Type 0
AreNarrow w v = (w ≤ 128) × (v ≤ 128)

abbrev pub IsNarrowAt : WidthMap → ℕ → Type 0
IsNarrowAt m p = AreNarrow (result_width m p) (operand_width m p)

-- it holds at each needed position
abbrev pub HoldsNeeded : Item → (ℕ → Type 0) → Type 0
HoldsNeeded a P = (p : ℕ) → NeededIn a p → P p

-- the item needs no hole, and no number or pair of more than 128 bits
pub record IsEvaluable (a : Item) (m : WidthMap) : Type 0 where
  pub meaning : HasNoHole a
  pub narrow : HoldsNeeded a (IsNarrowAt m)
  pub root : m.root ≤ 128

-- the number of a value's outcome is below the bound
abbrev pub IsValueBelow : (ℕ → Outcome) → ℕ → Operand → Type 0
IsValueBelow at bound (Value i) = number_or 0 (at i) < bound
IsValueBelow at bound (Constant c) = Unit {0}

-- a word's result and operands may have these widths
abbrev pub AllowsWidths : Option Word → ℕ → ℕ → Type 0
AllowsWidths None w v = Unit {0}
AllowsWidths (Some x) w v = AreWidths x w v

-- the instruction can be evaluated, if its result has w bits and its operands have v
pub record IsReady (w v : ℕ) (at : ℕ → Outcome) (i : Instruction) : Type 0 where
  pub result_low : 1 ≤ w
  pub result_high : w ≤ 128
  pub low : 1 ≤ v
  pub high : v ≤ 128
  pub allowed : AllowsWidths (meaning_of i) w v
  pub below : AllByRecursion (IsValueBelow at (2 ^ v)) (operands_of i)

abbrev pub IsReadyRhs : ℕ → ℕ → (ℕ → Outcome) → PlainRhs → Type 0
IsReadyRhs w v at var = Unit {0}
IsReadyRhs w v at (block b) = Unit {0}
IsReadyRhs w v at (phi f) = (1 ≤ v) × (v ≤ 128)
IsReadyRhs w v at reserved_inst = Unit {0}
IsReadyRhs w v at reserved_const = Unit {0}
IsReadyRhs w v at (instruction i) = IsReady w v at i

abbrev pub IsReadyStatement : ℕ → ℕ → (ℕ → Outcome) → PlainStatement → Type 0
IsReadyStatement w v at (assigned a) = IsReadyRhs w v at a.value
IsReadyStatement w v at (condition c) = Unit {0}
IsReadyStatement w v at (block_condition c) = Unit {0}

-- the facts of an input of w bits can be tested
pub record AreTestable (w : ℕ) (o : Outcome) (fs : List PlainAttribute) : Type 0 where
  pub low : 1 ≤ w
  pub high : w ≤ 128
  pub fits : number_or 0 o < 2 ^ w
  pub bit_counts : AllByRecursion (HasBitCount w) fs
  pub sign_bits : AllByRecursion (HasSignBits w) fs

abbrev pub IsTestableRhs : ℕ → Outcome → List PlainAttribute → PlainRhs → Type 0
IsTestableRhs w o fs var = AreTestable w o fs
IsTestableRhs w o fs reserved_inst = AreTestable w o fs
IsTestableRhs w o fs reserved_const = AreTestable w o fs
IsTestableRhs w o fs r = Unit {0}

-- so can those of the statement at position p, and its condition
abbrev pub IsTestable : ℕ → ℕ → World → ℕ → PlainStatement → Type 0
IsTestable w v x p (assigned a) = IsTestableRhs w (value_at x p) a.attributes a.value
IsTestable w v x p (condition c) = (1 ≤ v) × (v ≤ 128)
IsTestable w v x p (block_condition c) = (1 ≤ v) × (v ≤ 128)
