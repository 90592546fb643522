-- Definitions. The worlds of an item by number, and how many there are.
--
-- Each position has a count. The count of a needed input is the number of its values, and one more if it may be poison. The count of a
-- needed block is the number of its predecessors, and the count of a needed freeze the number of its choices. Every other position has the
-- count 1. There are as many worlds as the product of the counts. World number k gives each position what the digit of k there says, and
-- the first position counts fastest. The digit of an input is its value, or poison at the last digit; the digit of a block is the
-- predecessor that reaches it, and the digit of a freeze its choice.
use Rattle.std.specs.Prelude.{◌≡◌, ℕ, ◌+◌, ◌^◌, nat_lt, Bool, false, List, length, Option, Some, if◌then◌else◌, slice_get, slice_index_or}
use Rattle.souper_graph.specs.declared.ast.instructions.Instruction.{Instruction}
use Rattle.souper_graph.specs.declared.ast.instructions.Instruction.TheVariants.{Freeze}
use Rattle.souper_graph.specs.Values.{PlainRhs, var, block, phi, reserved_inst, reserved_const, instruction, PlainStatement, assigned, Item}
use Rattle.souper_graph.specs.Uses.{NeededIn}
use Rattle.souper_widths.specs.Maps.{WidthMap, result_width}
use Rattle.souper_words.specs.declared.outcome.Outcome.{Outcome}
use Rattle.souper_words.specs.declared.outcome.Outcome.TheVariants.{Number, Poison}
use Rattle.souper_meaning.specs.Digits.{product_of, digit_of}
use Rattle.souper_meaning.specs.Worlds.{World, value_at, predecessor_at, choice_at, Mode, value_inputs, poison_inputs}

-- the count of an input of w bits
abbrev pub input_count : Mode → ℕ → ℕ
input_count value_inputs w = 2 ^ w
input_count poison_inputs w = 2 ^ w + 1

abbrev pub instruction_count : ℕ → Instruction → ℕ
instruction_count w (Freeze a) = 2 ^ w
instruction_count w i = 1

-- the count of the right side of an assignment, whose result has w bits
abbrev pub rhs_count : Mode → ℕ → PlainRhs → ℕ
rhs_count mode w var = input_count mode w
rhs_count mode w (block b) = b.predecessors
rhs_count mode w (phi f) = 1
rhs_count mode w reserved_inst = input_count mode w
rhs_count mode w reserved_const = 2 ^ w
rhs_count mode w (instruction i) = instruction_count w i

abbrev pub statement_count : Mode → ℕ → Option PlainStatement → ℕ
statement_count mode w (Some (assigned a)) = rhs_count mode w a.value
statement_count mode w s = 1

-- the count of a position, if the marks say which statements are needed
abbrev pub count_at : Mode → Item → WidthMap → List Bool → ℕ → ℕ
count_at mode a m marks p = if slice_index_or marks p false then statement_count mode (result_width m p) (slice_get a.statements p) else 1

abbrev pub world_count : Mode → Item → WidthMap → List Bool → ℕ
world_count mode a m marks = product_of (count_at mode a m marks) (length a.statements)

-- the input of w bits with the number d: the values in order, then poison
abbrev pub numbered_input : ℕ → ℕ → Outcome
numbered_input w d = if nat_lt d (2 ^ w) then Number d else Poison

abbrev pub HasInstructionDigit : World → ℕ → ℕ → Instruction → Type 0
HasInstructionDigit x p d (Freeze a) = choice_at x p ≡ d
HasInstructionDigit x p d i = Unit {0}

-- the world gives the right side at position p, whose result has w bits, what the digit d says
abbrev pub HasRhsDigit : ℕ → World → ℕ → ℕ → PlainRhs → Type 0
HasRhsDigit w x p d var = value_at x p ≡ numbered_input w d
HasRhsDigit w x p d (block b) = predecessor_at x p ≡ d
HasRhsDigit w x p d (phi f) = Unit {0}
HasRhsDigit w x p d reserved_inst = value_at x p ≡ numbered_input w d
HasRhsDigit w x p d reserved_const = value_at x p ≡ numbered_input w d
HasRhsDigit w x p d (instruction i) = HasInstructionDigit x p d i

abbrev pub HasStatementDigit : ℕ → World → ℕ → ℕ → Option PlainStatement → Type 0
HasStatementDigit w x p d (Some (assigned a)) = HasRhsDigit w x p d a.value
HasStatementDigit w x p d s = Unit {0}

abbrev pub HasDigitAt : Item → WidthMap → World → ℕ → ℕ → Type 0
HasDigitAt a m x p d = HasStatementDigit (result_width m p) x p d (slice_get a.statements p)

-- the world has these digits at the needed positions
abbrev pub HasDigits : Item → WidthMap → World → (ℕ → ℕ) → Type 0
HasDigits a m x digits = (p : ℕ) → NeededIn a p → HasDigitAt a m x p (digits p)

-- the world has the number k
abbrev pub IsWorldNumber : Mode → Item → WidthMap → List Bool → ℕ → World → Type 0
IsWorldNumber mode a m marks k x = HasDigits a m x (digit_of (count_at mode a m marks) k)
