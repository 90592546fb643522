-- Definitions. The meaning of each word: its number, when it is poison, and when it is undefined behaviour.
use Rattle.std.specs.Prelude.{◌≡◌, ℕ, ◌+◌, ◌-◌, ◌*◌, ◌/◌, ◌%◌, ◌^◌, min, Bool, false, not, ◌&&◌, ◌||◌, ◌==◌, nat_lt, nat_le, if◌then◌else◌, ℤ, pos, ◌+ℤ◌, ◌-ℤ◌, ◌*ℤ◌, bit_and, bit_or, bit_xor, count_ones, unsigned_abs, int_lt, int_le, int_div}
use Rattle.std.specs.Int.{saturate_to_bits, int_shr}
use Rattle.std.specs.Int.Count.{count_leading_zeros, count_trailing_zeros}
use Rattle.souper_words.specs.declared.outcome.Outcome.{Outcome}
use Rattle.souper_words.specs.declared.outcome.Outcome.TheVariants.{Number, Poison, Undefined}
use Rattle.souper_words.specs.declared.words.Word.{Word}
use Rattle.souper_words.specs.declared.words.Word.TheVariants.{Add, AddNsw, AddNuw, AddNw, Sub, SubNsw, SubNuw, SubNw, Mul, MulNsw, MulNuw, MulNw, Shl, ShlNsw, ShlNuw, ShlNw, Udiv, Sdiv, UdivExact, SdivExact, Urem, Srem, And, Or, Xor, Lshr, LshrExact, Ashr, AshrExact, Select, Zext, Sext, Trunc, Eq, Ne, Ult, Slt, Ule, Sle, Ctpop, Bswap, BitReverse, Cttz, Ctlz, Fshl, Fshr, SaddWithOverflow, UaddWithOverflow, SsubWithOverflow, UsubWithOverflow, SmulWithOverflow, UmulWithOverflow, SaddSat, UaddSat, SsubSat, UsubSat, ExtractValue, Freeze}
use Rattle.souper_words.specs.Numbers.{signed, bits_of, is_out, reversed}
use Rattle.souper_words.specs.Outcomes.{is_undefined, is_poison, number_or, frozen, selected}

abbrev pub never : Bool
never = false

-- 1 if the test holds, else 0
abbrev pub bit : Bool → ℤ
bit t = pos (if t then 1 else 0)

-- the pair of a number of v bits and its overflow, as one number of v + 1 bits
abbrev pub pair : ℕ → ℤ → Bool → ℤ
pair v z overflow = pos (bits_of v z + (if overflow then 2 ^ v else 0))

-- b is 0, or a is the least signed number and b is -1
abbrev pub divides_out : ℕ → ℕ → ℕ → Bool
divides_out w a b = b == 0 || (a == 2 ^ (w - 1) && b == 2 ^ w - 1)

-- as signed numbers b does not divide a
abbrev pub leaves_rest : ℕ → ℕ → ℕ → Bool
leaves_rest w a b = not (unsigned_abs (signed w a) % unsigned_abs (signed w b) == 0)

-- Of each word the number, taken modulo 2^w, when the outcome is poison, and when it is undefined behaviour. The result has w
-- bits, the operands a, b and c have v. A select has a condition and two arms; an index of extractvalue is a number.
abbrev pub row : Word → ℕ → ℕ → ℕ → ℕ → ℕ → ℤ × Bool × Bool
row Add w v a b c = (pos (a + b), never, never)
row AddNsw w v a b c = (pos (a + b), is_out v (signed v a +ℤ signed v b), never)
row AddNuw w v a b c = (pos (a + b), nat_le (2 ^ w) (a + b), never)
row AddNw w v a b c = (pos (a + b), is_out v (signed v a +ℤ signed v b) || nat_le (2 ^ w) (a + b), never)
row Sub w v a b c = (pos a -ℤ pos b, never, never)
row SubNsw w v a b c = (pos a -ℤ pos b, is_out v (signed v a -ℤ signed v b), never)
row SubNuw w v a b c = (pos a -ℤ pos b, nat_lt a b, never)
row SubNw w v a b c = (pos a -ℤ pos b, is_out v (signed v a -ℤ signed v b) || nat_lt a b, never)
row Mul w v a b c = (pos (a * b), never, never)
row MulNsw w v a b c = (pos (a * b), is_out v (signed v a *ℤ signed v b), never)
row MulNuw w v a b c = (pos (a * b), nat_le (2 ^ w) (a * b), never)
row MulNw w v a b c = (pos (a * b), is_out v (signed v a *ℤ signed v b) || nat_le (2 ^ w) (a * b), never)
row Shl w v a b c = (pos (a * 2 ^ b), nat_le w b, never)
row ShlNsw w v a b c = (pos (a * 2 ^ b), nat_le w b || is_out v (signed v a *ℤ pos (2 ^ b)), never)
row ShlNuw w v a b c = (pos (a * 2 ^ b), nat_le w b || nat_le (2 ^ w) (a * 2 ^ b), never)
row ShlNw w v a b c = (pos (a * 2 ^ b), nat_le w b || is_out v (signed v a *ℤ pos (2 ^ b)) || nat_le (2 ^ w) (a * 2 ^ b), never)
row Udiv w v a b c = (pos (a / b), never, b == 0)
row Sdiv w v a b c = (int_div (signed v a) (signed v b), never, divides_out v a b)
row UdivExact w v a b c = (pos (a / b), not (a % b == 0), b == 0)
row SdivExact w v a b c = (int_div (signed v a) (signed v b), leaves_rest v a b, divides_out v a b)
row Urem w v a b c = (pos a -ℤ pos (b * (a / b)), never, b == 0)
row Srem w v a b c = (signed v a -ℤ signed v b *ℤ int_div (signed v a) (signed v b), never, divides_out v a b)
row And w v a b c = (pos (bit_and a b), never, never)
row Or w v a b c = (pos (bit_or a b), never, never)
row Xor w v a b c = (pos (bit_xor a b), never, never)
row Lshr w v a b c = (pos (a / 2 ^ b), nat_le w b, never)
row LshrExact w v a b c = (pos (a / 2 ^ b), nat_le w b || not (a % 2 ^ b == 0), never)
row Ashr w v a b c = (int_shr (signed v a) b, nat_le w b, never)
row AshrExact w v a b c = (int_shr (signed v a) b, nat_le w b || not (a % 2 ^ b == 0), never)
row Select w v c a b = (pos (if c == 1 then a else b), never, never)
row Zext w v a b c = (pos a, never, never)
row Sext w v a b c = (signed v a, never, never)
row Trunc w v a b c = (pos a, never, never)
row Eq w v a b c = (bit (a == b), never, never)
row Ne w v a b c = (bit (not (a == b)), never, never)
row Ult w v a b c = (bit (nat_lt a b), never, never)
row Slt w v a b c = (bit (int_lt (signed v a) (signed v b)), never, never)
row Ule w v a b c = (bit (nat_le a b), never, never)
row Sle w v a b c = (bit (int_le (signed v a) (signed v b)), never, never)
row Ctpop w v a b c = (pos (count_ones a), never, never)
row Bswap w v a b c = (pos (reversed 256 (w / 8) a), never, never)
row BitReverse w v a b c = (pos (reversed 2 w a), never, never)
row Cttz w v a b c = (pos (count_trailing_zeros w a), never, never)
row Ctlz w v a b c = (pos (count_leading_zeros w a), never, never)
row Fshl w v a b c = (pos ((a * 2 ^ w + b) * 2 ^ (c % w) / 2 ^ w), never, never)
row Fshr w v a b c = (pos ((a * 2 ^ w + b) / 2 ^ (c % w)), never, never)
row SaddWithOverflow w v a b c = (pair v (pos (a + b)) (is_out v (signed v a +ℤ signed v b)), never, never)
row UaddWithOverflow w v a b c = (pair v (pos (a + b)) (nat_le (2 ^ v) (a + b)), never, never)
row SsubWithOverflow w v a b c = (pair v (pos a -ℤ pos b) (is_out v (signed v a -ℤ signed v b)), never, never)
row UsubWithOverflow w v a b c = (pair v (pos a -ℤ pos b) (nat_lt a b), never, never)
row SmulWithOverflow w v a b c = (pair v (pos (a * b)) (is_out v (signed v a *ℤ signed v b)), never, never)
row UmulWithOverflow w v a b c = (pair v (pos (a * b)) (nat_le (2 ^ v) (a * b)), never, never)
row SaddSat w v a b c = (saturate_to_bits (v - 1) (signed v a +ℤ signed v b), never, never)
row UaddSat w v a b c = (pos (min (a + b) (2 ^ w - 1)), never, never)
row SsubSat w v a b c = (saturate_to_bits (v - 1) (signed v a -ℤ signed v b), never, never)
row UsubSat w v a b c = (pos (if nat_le b a then a - b else 0), never, never)
row ExtractValue w v a b c = (pos (if b == 0 then a % 2 ^ (v - 1) else a / 2 ^ (v - 1)), never, never)
row Freeze w v a b c = (pos a, never, never)

-- the outcome that a row says
abbrev pub row_outcome : ℕ → ℤ × Bool × Bool → Outcome
row_outcome w (n, poison, undefined) = if undefined then Undefined else if poison then Poison else Number (bits_of w n)

-- Whether operands make a row undefined behaviour. A poison divisor counts as 0, a poison dividend as the least signed number,
-- since they may be.
abbrev pub is_undefined_at : Word → ℕ → ℕ → Outcome → Outcome → Bool
is_undefined_at x w v a b = (row x w v (number_or (2 ^ (v - 1)) a) (number_or 0 b) 0).2

-- operands that are not undefined: poison if one is, else what the row says, but for two words
abbrev pub outcome_of_operands : Word → ℕ → ℕ → ℕ → Outcome → Outcome → Outcome → Outcome
outcome_of_operands Select w v choice c a b = selected c a b
outcome_of_operands Freeze w v choice a b c = frozen choice a
outcome_of_operands x w v choice a b c = if is_poison a || is_poison b || is_poison c then Poison else row_outcome w (row x w v (number_or 0 a) (number_or 0 b) (number_or 0 c))

-- The outcome of a word, where a freeze of poison gives the choice. Operands that a word lacks count as the number 0.
abbrev pub outcome : Word → ℕ → ℕ → ℕ → Outcome → Outcome → Outcome → Outcome
outcome x w v choice a b c = if is_undefined a || is_undefined b || is_undefined c || is_undefined_at x w v a b then Undefined else outcome_of_operands x w v choice a b c

-- the widths of a result and of operands that a word may have, as far as its outcome needs them
abbrev pub AreWidths : Word → ℕ → ℕ → Type 0
AreWidths Zext w v = Unit {0}
AreWidths Sext w v = Unit {0}
AreWidths Trunc w v = Unit {0}
AreWidths Eq w v = w ≡ 1
AreWidths Ne w v = w ≡ 1
AreWidths Ult w v = w ≡ 1
AreWidths Slt w v = w ≡ 1
AreWidths Ule w v = w ≡ 1
AreWidths Sle w v = w ≡ 1
AreWidths SaddWithOverflow w v = w ≡ v + 1
AreWidths UaddWithOverflow w v = w ≡ v + 1
AreWidths SsubWithOverflow w v = w ≡ v + 1
AreWidths UsubWithOverflow w v = w ≡ v + 1
AreWidths SmulWithOverflow w v = w ≡ v + 1
AreWidths UmulWithOverflow w v = w ≡ v + 1
AreWidths ExtractValue w v = Unit {0}
AreWidths Bswap w v = (w ≡ v) × (v % 16 ≡ 0)
AreWidths x w v = w ≡ v
