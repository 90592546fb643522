-- Definitions. When a world meets facts and conditions, when a right side refines a left one, and sound and vacuous items.
use Rattle.std.specs.Prelude.{◌≡◌, ◌≢◌, ℕ, ◌⊎◌, List, Option, Some, None, slice_get, bit_and}
use Rattle.std.specs.List.{AllByRecursion}
use Rattle.souper_graph.specs.declared.ast.operands.Operand.{Operand}
use Rattle.souper_graph.specs.declared.ast.instructions.Instruction.TheVariants.{Hole}
use Rattle.souper_graph.specs.Values.{PlainAttribute, PlainRhs, var, reserved_inst, reserved_const, instruction, PlainStatement, assigned, condition, block_condition, Ending, inferred, resulting, replaced, candidate, Item}
use Rattle.souper_graph.specs.Uses.{NeededIn}
use Rattle.souper_widths.specs.Maps.{WidthMap, result_width, operand_width}
use Rattle.souper_words.specs.declared.outcome.Outcome.{Outcome}
use Rattle.souper_words.specs.declared.outcome.Outcome.TheVariants.{Number, Poison, Undefined}
use Rattle.souper_meaning.specs.Worlds.{World, value_at, predecessor_at, Mode, IsWorld}
use Rattle.souper_meaning.specs.Facts.{HoldsOf, wanted_bits}
use Rattle.souper_meaning.specs.Instructions.{operand_outcome}
use Rattle.souper_meaning.specs.Statements.{out}

-- the facts hold of a number; a poison input meets its facts
abbrev pub MeetsFacts : ℕ → Outcome → List PlainAttribute → Type 0
MeetsFacts w (Number n) fs = AllByRecursion (HoldsOf w n) fs
MeetsFacts w x fs = Unit {0}

abbrev pub MeetsRhs : ℕ → Outcome → List PlainAttribute → PlainRhs → Type 0
MeetsRhs w o fs var = MeetsFacts w o fs
MeetsRhs w o fs reserved_inst = MeetsFacts w o fs
MeetsRhs w o fs reserved_const = MeetsFacts w o fs
MeetsRhs w o fs r = Unit {0}

-- both are one number, and neither is poison or undefined
abbrev pub AreOneNumber : Outcome → Outcome → Type 0
AreOneNumber (Number m) (Number n) = m ≡ n
AreOneNumber x y = ⊥

-- the operands of a condition, of v bits, are one number
abbrev pub AreEqual : (ℕ → Outcome) → ℕ → Operand → Operand → Type 0
AreEqual at v x y = AreOneNumber (operand_outcome at v x) (operand_outcome at v y)

-- facts and conditions of the statement at position p, if its result has w bits and its operands have v
abbrev pub MeetsStatement : ℕ → ℕ → World → (ℕ → Outcome) → ℕ → Option PlainStatement → Type 0
MeetsStatement w v x at p (Some (assigned a)) = MeetsRhs w (value_at x p) a.attributes a.value
MeetsStatement w v x at p (Some (condition c)) = AreEqual at v c.x c.y
MeetsStatement w v x at p (Some (block_condition c)) = (predecessor_at x c.block ≢ c.predecessor) ⊎ AreEqual at v c.x c.y
MeetsStatement w v x at p None = Unit {0}

-- those of the statement at position p, if the item has these widths
abbrev pub MeetsAt : Item → WidthMap → World → ℕ → Type 0
MeetsAt a m x p = MeetsStatement (result_width m p) (operand_width m p) x (out a m x) p (slice_get a.statements p)

-- the world meets the facts of needed inputs, and the conditions
abbrev pub Meets : Item → WidthMap → World → Type 0
Meets a m x = (p : ℕ) → NeededIn a p → MeetsAt a m x p

-- what the right side may be, where the bits d are wanted: anything for undefined behaviour, a value or poison for poison
abbrev pub Refines : ℕ → Outcome → Outcome → Type 0
Refines d Undefined r = Unit {0}
Refines d Poison Undefined = ⊥
Refines d Poison r = Unit {0}
Refines d (Number m) (Number n) = bit_and m d ≡ bit_and n d
Refines d (Number m) r = ⊥

-- the replaced root, the result and the attributes of the root; a left-hand or a right-hand side replaces nothing
abbrev pub RefinesEnding : WidthMap → (ℕ → Outcome) → Ending → Type 0
RefinesEnding m at (inferred i) = ⊥
RefinesEnding m at (resulting r) = ⊥
RefinesEnding m at (replaced i r) = Refines (wanted_bits m.root i.attributes) (at i.value) (operand_outcome at m.root r)
RefinesEnding m at (candidate c) = Refines (wanted_bits m.root c.attributes) (operand_outcome at m.root c.lhs) (operand_outcome at m.root c.rhs)

abbrev pub IsHoleRhs : PlainRhs → Type 0
IsHoleRhs (instruction Hole) = Unit {0}
IsHoleRhs r = ⊥

abbrev pub IsHole : Option PlainStatement → Type 0
IsHole (Some (assigned a)) = IsHoleRhs a.value
IsHole s = ⊥

-- no needed statement is a hole, which has no meaning
abbrev pub HasNoHole : Item → Type 0
HasNoHole a = (p : ℕ) → NeededIn a p → ¬ IsHole (slice_get a.statements p)

-- The item has no hole, and in each world that meets the facts and conditions, the result refines the replaced root. The map is to be the
-- widths of the item.
abbrev pub Sound : Mode → Item → WidthMap → Type 0
Sound mode a m = HasNoHole a × ((x : World) → IsWorld mode a m x → Meets a m x → RefinesEnding m (out a m x) a.ending)

-- it has no hole, and no world meets them
abbrev pub Vacuous : Mode → Item → WidthMap → Type 0
Vacuous mode a m = HasNoHole a × ((x : World) → IsWorld mode a m x → ¬ Meets a m x)
