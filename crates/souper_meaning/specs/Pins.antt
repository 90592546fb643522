-- Definitions. Which conditions compare an input with a constant, and the numbers that meet them.
--
-- A span of numbers of w bits has a first one and an end, the one after the last; after 2^w - 1 comes 0. Where both are the same, nothing is said.
-- A condition pins an input if it says that the input is a constant, or whether a comparison of the input with a constant holds.
use Rattle.std.specs.Prelude.{ℕ, ◌+◌, ◌-◌, ◌%◌, ◌^◌, nat_eq, nat_le, nat_lt, min, Bool, true, false, List, [], ◌∷◌, Option, Some, None, ℤ, if◌then◌else◌, slice_get}
use Rattle.std.specs.Int.{w128, cast_unsigned}
use Rattle.souper_graph.specs.declared.ast.operands.Operand.{Operand}
use Rattle.souper_graph.specs.declared.ast.operands.Operand.TheVariants.{Value, Constant}
use Rattle.souper_graph.specs.declared.ast.instructions.Instruction.{Instruction}
use Rattle.souper_graph.specs.declared.ast.instructions.Instruction.TheVariants.{Eq, Ne, Ult, Slt, Ule, Sle}
use Rattle.souper_graph.specs.Instructions.{operands_of}
use Rattle.souper_graph.specs.Values.{PlainRhs, instruction, PlainStatement, assigned, condition, Item}
use Rattle.souper_widths.specs.Maps.{WidthMap, result_width}
use Rattle.souper_meaning.specs.declared.spans.Span.{Span}
use Rattle.souper_meaning.specs.declared.pins.Pin.{Pin}

-- sums and differences of w bits
abbrev pub plus : ℕ → ℕ → ℕ → ℕ
plus w a b = (a + b) % 2 ^ 128 % 2 ^ w

abbrev pub minus : ℕ → ℕ → ℕ → ℕ
minus w a b = (a + (2 ^ 128 - b)) % 2 ^ 128 % 2 ^ w

-- the bits of a constant
abbrev pub bits : ℕ → ℤ → ℕ
bits w c = cast_unsigned w128 c % 2 ^ w

abbrev pub from_to : ℕ → ℕ → Span
from_to first end = record { first = first; end = end }

-- nothing is said
abbrev pub unsaid : Span
unsaid = from_to 0 0

-- the numbers that are less than n, which stands on the right, or greater than n, which stands on the left, where this number is the least
abbrev pub strictly : ℕ → ℕ → Bool → ℕ → Span
strictly w least right n = if right then from_to least n else from_to (plus w n 1) least

-- n too
abbrev pub at_most : ℕ → ℕ → Bool → ℕ → Span
at_most w least right n = if right then from_to least (plus w n 1) else from_to n least

-- the numbers for which the comparison with n, which stands on the right or on the left, holds
abbrev pub compared : ℕ → Bool → ℕ → Instruction → Span
compared w right n (Eq a b) = from_to n (plus w n 1)
compared w right n (Ne a b) = from_to (plus w n 1) n
compared w right n (Ult a b) = strictly w 0 right n
compared w right n (Ule a b) = at_most w 0 right n
compared w right n (Slt a b) = strictly w (2 ^ min (w - 1) 127) right n
compared w right n (Sle a b) = at_most w (2 ^ min (w - 1) 127) right n
compared w right n i = unsaid

-- the numbers, or all others
abbrev pub decided : Bool → Span → Span
decided holds s = if holds then s else from_to s.end s.first

-- the pin of position p, by a comparison with c that is to be k
abbrev pub pin_at : WidthMap → ℤ → Instruction → ℕ → Bool → ℤ → Pin
pin_at m k i p right c = record { position = p; numbers = decided (nat_eq (cast_unsigned w128 k % 2) 1) (compared (result_width m p) right (bits (result_width m p) c) i) }

abbrev pub pin_of_operands : WidthMap → ℤ → Instruction → Option Operand → Option Operand → Option Pin
pin_of_operands m k i (Some (Value p)) (Some (Constant c)) = Some (pin_at m k i p true c.value)
pin_of_operands m k i (Some (Constant c)) (Some (Value p)) = Some (pin_at m k i p false c.value)
pin_of_operands m k i x y = None

-- the pin of position p, which is to be k
abbrev pub equal_pin : WidthMap → ℕ → ℤ → Pin
equal_pin m p k = record { position = p; numbers = from_to (bits (result_width m p) k) (plus (result_width m p) (bits (result_width m p) k) 1) }

-- the pin by the right side at position p, if its value is to be k
abbrev pub pin_of_rhs : WidthMap → ℕ → ℤ → PlainRhs → Option Pin
pin_of_rhs m p k (instruction i) = pin_of_operands m k i (slice_get (operands_of i) 0) (slice_get (operands_of i) 1)
pin_of_rhs m p k r = Some (equal_pin m p k)

abbrev pub pin_of_statement : WidthMap → ℕ → ℤ → Option PlainStatement → Option Pin
pin_of_statement m p k (Some (assigned a)) = pin_of_rhs m p k a.value
pin_of_statement m p k o = None

abbrev pub pin_of_pc : Item → WidthMap → Operand → Operand → Option Pin
pin_of_pc a m (Value p) (Constant c) = pin_of_statement m p c.value (slice_get a.statements p)
pin_of_pc a m x y = None

abbrev pub pin_of : Item → WidthMap → PlainStatement → Option Pin
pin_of a m (condition c) = pin_of_pc a m c.x c.y
pin_of a m s = None

-- how many numbers; 0 where nothing is said
abbrev pub size : ℕ → Span → ℕ
size w s = minus w s.end s.first

-- the number is among them
abbrev pub is_among : ℕ → Span → ℕ → Bool
is_among w s n = nat_lt (minus w n s.first) (size w s)

-- the fewer of two
abbrev pub fewer : ℕ → Span → Span → Span
fewer w s t = if nat_le (size w s) (size w t) then s else t

-- the numbers among both, where the second span begins within the first
abbrev pub begun : ℕ → Span → Span → Span
begun w s t = if is_among w s (minus w t.end 1) then t else from_to t.first s.end

-- the numbers among both; where these are two spans, or none, the fewer of both
abbrev pub common : ℕ → Span → Span → Span
common w s t =
    if is_among w s t.first
    then if is_among w t s.first then fewer w s t else begun w s t
    else if is_among w t s.first then begun w t s else fewer w s t

abbrev pub shared : ℕ → Span → Span → Span
shared w s t = if nat_eq (size w s) 0 then t else if nat_eq (size w t) 0 then s else common w s t

-- the number, or one of these numbers in its place
abbrev pub placed : ℕ → Span → ℕ → ℕ
placed w s n = if nat_eq (size w s) 0 then n else plus w s.first (minus w n s.first % size w s)

-- the numbers at position p, if the statement has the pin
abbrev pub pinned_by : WidthMap → ℕ → Span → Option Pin → Span
pinned_by m p s None = s
pinned_by m p s (Some q) = if nat_eq q.position p then shared (result_width m p) s q.numbers else s

-- the numbers that all conditions of the statements leave
abbrev pub pinned_from : Item → WidthMap → ℕ → Span → List PlainStatement → Span
pinned_from a m p s [] = s
pinned_from a m p s (x ∷ xs) = pinned_from a m p (pinned_by m p s (pin_of a m x)) xs

abbrev pub numbers_at : Item → WidthMap → ℕ → Span
numbers_at a m p = pinned_from a m p unsaid a.statements
