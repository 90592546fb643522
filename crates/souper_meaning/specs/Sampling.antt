-- Definitions. The worlds that a search for counterexamples tries, by number.
--
-- Try n gives each needed position a digit, as the number of a world does (`Numbering`). The edges of a position with w bits are 0, 1 and
-- -1, each constant of the item and its neighbours, and 2^k and 2^k - 1 for each k below w. The digit at try n is edge n. Where there is no
-- edge n, the digit is an edge or any number of w bits, each as often; where inputs may be poison, every eighth is poison. If conditions pin
-- an input (`Pins`), it is not poison, and the digit is one that they leave. The digit of a block is any of its predecessors. These
-- choices are by the generator SplitMix64: the seed is the state from which output n is the state of try n, from which output p is the state
-- of position p.
use Rattle.std.specs.Prelude.{ℕ, ◌+◌, ◌-◌, ◌*◌, ◌/◌, ◌%◌, ◌^◌, nat_eq, nat_le, nat_lt, Bool, ◌&&◌, List, [], ◌∷◌, ◌++◌, length, flat_map, Option, Some, ℤ, pos, if◌then◌else◌, slice_get, slice_index, bit_xor}
use Rattle.std.specs.Int.{w128, cast_unsigned}
use Rattle.souper_graph.specs.declared.ast.operands.Operand.{Operand}
use Rattle.souper_graph.specs.declared.ast.operands.Operand.TheVariants.{Value, Constant}
use Rattle.souper_graph.specs.declared.ast.instructions.Instruction.{Instruction}
use Rattle.souper_graph.specs.declared.ast.instructions.Instruction.TheVariants.{Freeze}
use Rattle.souper_graph.specs.Instructions.{operands_of}
use Rattle.souper_graph.specs.PartsView.{root_operands}
use Rattle.souper_graph.specs.Values.{PlainRhs, var, block, phi, reserved_inst, reserved_const, instruction, PlainStatement, assigned, condition, block_condition, Item}
use Rattle.souper_widths.specs.Maps.{WidthMap, result_width}
use Rattle.souper_meaning.specs.Worlds.{World, Mode, value_inputs, poison_inputs, IsWorld}
use Rattle.souper_meaning.specs.Numbering.{HasDigits}
use Rattle.souper_meaning.specs.declared.spans.Span.{Span}
use Rattle.souper_meaning.specs.Pins.{size, placed, numbers_at}

-- z with its high bits folded down by k places, times m
abbrev pub folded : ℕ → ℕ → ℕ → ℕ
folded z k m = bit_xor z (z / 2 ^ k) * m % 2 ^ 64

-- output i, counted from 0, of the generator SplitMix64 in state x
unfoldable pub output : ℕ → ℕ → ℕ
output x i =
    let z = folded (folded ((x + (i + 1) % 2 ^ 64 * 0x9e3779b97f4a7c15 % 2 ^ 64) % 2 ^ 64) 30 0xbf58476d1ce4e5b9) 27 0x94d049bb133111eb in
    bit_xor z (z / 2 ^ 31)

-- one of the numbers below the count, by a word of 64 bits
abbrev pub scaled : ℕ → ℕ → ℕ
scaled word count = word * count / 2 ^ 64

-- a constant and its neighbours, as numbers of 128 bits
abbrev pub neighbours : ℤ → List ℕ
neighbours c = let n = cast_unsigned w128 c in n ∷ (n + 1) % 2 ^ 128 ∷ (n + (2 ^ 128 - 1)) % 2 ^ 128 ∷ []

abbrev pub neighbours_of_operand : Operand → List ℕ
neighbours_of_operand (Value i) = []
neighbours_of_operand (Constant c) = neighbours c.value

-- the operands of a statement
abbrev pub rhs_operands : PlainRhs → List Operand
rhs_operands (phi f) = f.values
rhs_operands (instruction i) = operands_of i
rhs_operands r = []

abbrev pub statement_operands : PlainStatement → List Operand
statement_operands (assigned a) = rhs_operands a.value
statement_operands (condition c) = c.x ∷ c.y ∷ []
statement_operands (block_condition c) = c.x ∷ c.y ∷ []

abbrev pub neighbours_of_statement : PlainStatement → List ℕ
neighbours_of_statement s = flat_map neighbours_of_operand (statement_operands s)

-- the edges by constants, in the order of the text; 0 is the first
abbrev pub edges_of : Item → List ℕ
edges_of a = neighbours (pos 0) ++ flat_map neighbours_of_statement a.statements ++ flat_map neighbours_of_operand (root_operands a.ending)

-- how many edges w bits have
abbrev pub edge_count : ℕ → List ℕ → ℕ
edge_count w es = length es + 2 * w

-- 1, 0, 2, 1, 4, 3 and so on
abbrev pub power_edge : ℕ → ℕ
power_edge i = 2 ^ (i / 2) - i % 2

-- edge i of w bits
abbrev pub edge : ℕ → List ℕ → ℕ → ℕ
edge w es i = if nat_lt i (length es) then slice_index es i % 2 ^ w else power_edge (i - length es)

-- an edge, or any number of w bits, as the generator in state s has it
abbrev pub random_number : ℕ → List ℕ → ℕ → ℕ
random_number w es s =
    if nat_eq (output s 0 % 2) 0
    then edge w es (scaled (output s 0) (edge_count w es))
    else (output s 1 * 2 ^ 64 + output s 2) % 2 ^ w

-- the number of w bits at try n
abbrev pub number_at : ℕ → List ℕ → ℕ → ℕ → ℕ
number_at w es n s = if nat_lt n (edge_count w es) then edge w es n else random_number w es s

-- where there is no edge n, every eighth input that may be poison is so, unless it is pinned
abbrev pub is_poison_at : ℕ → List ℕ → Span → ℕ → ℕ → Bool
is_poison_at w es ns n s = nat_eq (size w ns) 0 && nat_le (edge_count w es) n && nat_eq (output s 3 % 8) 0

-- the number at try n, or one that the conditions leave
abbrev pub pinned_at : ℕ → List ℕ → Span → ℕ → ℕ → ℕ
pinned_at w es ns n s = placed w ns (number_at w es n s)

abbrev pub input_at : Mode → ℕ → List ℕ → Span → ℕ → ℕ → ℕ
input_at value_inputs w es ns n s = pinned_at w es ns n s
input_at poison_inputs w es ns n s = if is_poison_at w es ns n s then 2 ^ w else pinned_at w es ns n s

abbrev pub instruction_at : ℕ → List ℕ → ℕ → ℕ → Instruction → ℕ
instruction_at w es n s (Freeze a) = number_at w es n s
instruction_at w es n s i = 0

abbrev pub rhs_at : Mode → ℕ → List ℕ → Span → ℕ → ℕ → PlainRhs → ℕ
rhs_at mode w es ns n s var = input_at mode w es ns n s
rhs_at mode w es ns n s (block b) = scaled (output s 0) b.predecessors
rhs_at mode w es ns n s (phi f) = 0
rhs_at mode w es ns n s reserved_inst = input_at mode w es ns n s
rhs_at mode w es ns n s reserved_const = pinned_at w es ns n s
rhs_at mode w es ns n s (instruction i) = instruction_at w es n s i

abbrev pub statement_at : Mode → ℕ → List ℕ → Span → ℕ → ℕ → Option PlainStatement → ℕ
statement_at mode w es ns n s (Some (assigned a)) = rhs_at mode w es ns n s a.value
statement_at mode w es ns n s o = 0

-- the digit at position p of the try number n that has the state t
abbrev pub digit_at : Mode → Item → WidthMap → ℕ → ℕ → ℕ → ℕ
digit_at mode a m n t p = statement_at mode (result_width m p) (edges_of a) (numbers_at a m p) n (output t p) (slice_get a.statements p)

-- the world is try n of the seed
pub record IsTry (mode : Mode) (a : Item) (m : WidthMap) (seed n : ℕ) (x : World) : Type 0 where
  pub world : IsWorld mode a m x
  pub digits : HasDigits a m x (digit_at mode a m n (output seed n))
