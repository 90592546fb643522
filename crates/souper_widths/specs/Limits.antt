-- Definitions. What the widths of an item must allow: conversions, bytes, constants and facts.
use Rattle.std.specs.Prelude.{◌≡◌, ℕ, ◌+◌, ◌-◌, ◌%◌, ◌^◌, ◌<◌, ◌≤◌, ◌⊎◌, ℤ, pos, negsuc, List, [], ◌∷◌, length, Option, Some, slice_get}
use Rattle.std.specs.List.{AllByRecursion}
use Rattle.souper_graph.specs.declared.ast.operands.Operand.{Operand}
use Rattle.souper_graph.specs.declared.ast.operands.Operand.TheVariants.{Value, Constant}
use Rattle.souper_graph.specs.declared.ast.instructions.Instruction.{Instruction}
use Rattle.souper_graph.specs.declared.ast.instructions.Instruction.TheVariants.{Zext, Sext, Trunc, Bswap}
use Rattle.souper_graph.specs.declared.ast.flaws.FlawLocation.{FlawLocation}
use Rattle.souper_graph.specs.declared.ast.flaws.FlawLocation.TheVariants.{Statement}
use Rattle.souper_graph.specs.Values.{PlainAttribute, known_bits, sign_bits, range, PlainRootAttribute, demanded_bits, PlainRhs, instruction, PlainAssignment, PlainStatement, assigned, Item}
use Rattle.souper_graph.specs.Flaws.{line_operands, line_attributes}
use Rattle.souper_widths.specs.declared.flaws.WidthReason.{WidthReason}
use Rattle.souper_widths.specs.declared.flaws.WidthReason.TheVariants.{NotWider, NotNarrower, ByteSwap, ConstantTooWide, BitCount, SignBits, Range}
use Rattle.souper_widths.specs.Maps.{WidthMap, result_width, operand_width}
use Rattle.souper_widths.specs.Equations.{Width, of_root, width_by}
use Rattle.souper_widths.specs.Table.{each_with}
use Rattle.souper_widths.specs.Places.{IsPlace, optional_operands}

-- The number is at least -2^(n-1) and below 2^n. A negative one is -(k + 1), and k is below 2^(n-1).
abbrev pub FitsWidth : ℕ → ℤ → Type 0
FitsWidth n (pos k) = k < 2 ^ n
FitsWidth n (negsuc k) = k < 2 ^ (n - 1)

-- the number modulo 2^n
abbrev pub bits_of : ℕ → ℤ → ℕ
bits_of n (pos k) = k % 2 ^ n
bits_of n (negsuc k) = 2 ^ n - 1 - k % 2 ^ n

-- equal ends say that no number is in the range, or every number
abbrev pub IsRange : ℕ → ℕ → ℕ → Type 0
IsRange n low high = low ≡ high → (low ≡ 0) ⊎ (low + 1 ≡ 2 ^ n)

abbrev pub Widens : ℕ → ℕ → Instruction → Type 0
Widens v w (Zext a) = v < w
Widens v w (Sext a) = v < w
Widens v w i = Unit {0}

abbrev pub Narrows : ℕ → ℕ → Instruction → Type 0
Narrows v w (Trunc a) = w < v
Narrows v w i = Unit {0}

abbrev pub HasBytePairs : ℕ → Instruction → Type 0
HasBytePairs w (Bswap a) = w % 16 ≡ 0
HasBytePairs w i = Unit {0}

abbrev pub HasBitCount : ℕ → PlainAttribute → Type 0
HasBitCount w (known_bits bs) = length bs ≡ w
HasBitCount w a = Unit {0}

abbrev pub HasRootBitCount : ℕ → PlainRootAttribute → Type 0
HasRootBitCount r (demanded_bits bs) = length bs ≡ r
HasRootBitCount r a = Unit {0}

abbrev pub HasSignBits : ℕ → PlainAttribute → Type 0
HasSignBits w (sign_bits n) = n ≤ w
HasSignBits w a = Unit {0}

abbrev pub HasRange : ℕ → PlainAttribute → Type 0
HasRange w (range low high) = FitsWidth w low × FitsWidth w high × IsRange w (bits_of w low) (bits_of w high)
HasRange w a = Unit {0}

-- a constant fits n bits
abbrev pub FitsBits : ℕ → Operand → Type 0
FitsBits n (Value i) = Unit {0}
FitsBits n (Constant c) = FitsWidth n c.value

-- a constant fits its width
abbrev pub FitsOperandWidth : WidthMap → Operand × Width → Type 0
FitsOperandWidth m (x, n) = FitsBits (width_by m n) x

abbrev pub OnInstruction : (Instruction → Type 0) → PlainRhs → Type 0
OnInstruction P (instruction i) = P i
OnInstruction P x = Unit {0}

-- an assignment with a result of w bits and operands of v is free of the reason
abbrev pub WithinAssignment : ℕ → ℕ → PlainAssignment → WidthReason → Type 0
WithinAssignment w v a NotWider = OnInstruction (Widens v w) a.value
WithinAssignment w v a NotNarrower = OnInstruction (Narrows v w) a.value
WithinAssignment w v a ByteSwap = OnInstruction (HasBytePairs w) a.value
WithinAssignment w v a BitCount = AllByRecursion (HasBitCount w) a.attributes
WithinAssignment w v a SignBits = AllByRecursion (HasSignBits w) a.attributes
WithinAssignment w v a Range = AllByRecursion (HasRange w) a.attributes
WithinAssignment w v a r = Unit {0}

abbrev pub WithinStatement : ℕ → ℕ → Option PlainStatement → WidthReason → Type 0
WithinStatement w v (Some (assigned a)) r = WithinAssignment w v a r
WithinStatement w v s r = Unit {0}

abbrev pub WithinLine : ℕ → List PlainRootAttribute → WidthReason → Type 0
WithinLine n attributes BitCount = AllByRecursion (HasRootBitCount n) attributes
WithinLine n attributes r = Unit {0}

-- what stands at position p is free of the reason
abbrev pub KeepsStatement : WidthMap → ℕ → Option PlainStatement → WidthReason → Type 0
KeepsStatement m p s ConstantTooWide = AllByRecursion (FitsOperandWidth m) (optional_operands p s)
KeepsStatement m p s r = WithinStatement (result_width m p) (operand_width m p) s r

-- a last line with these operands and attributes is
abbrev pub KeepsLine : WidthMap → List Operand → List PlainRootAttribute → WidthReason → Type 0
KeepsLine m xs attributes ConstantTooWide = AllByRecursion (FitsOperandWidth m) (each_with of_root xs)
KeepsLine m xs attributes r = WithinLine m.root attributes r

-- the location is
abbrev pub KeepsAt : Item → WidthMap → FlawLocation → WidthReason → Type 0
KeepsAt a m (Statement p) r = KeepsStatement m p (slice_get a.statements p) r
KeepsAt a m l r = KeepsLine m (line_operands l a.ending) (line_attributes l a.ending) r

-- the reasons in the order in which they are looked for at one place
abbrev pub limit_reasons : List WidthReason
limit_reasons = NotWider ∷ NotNarrower ∷ ByteSwap ∷ ConstantTooWide ∷ BitCount ∷ SignBits ∷ Range ∷ []

-- no place has one of them
abbrev pub KeepsLimits : Item → WidthMap → Type 0
KeepsLimits a m = (l : FlawLocation) → IsPlace a l → AllByRecursion (KeepsAt a m l) limit_reasons
