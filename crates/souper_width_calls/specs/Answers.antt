-- Definitions. What the answer to a question for the widths of an item says.
use Rattle.std.specs.Prelude.{◌≡◌, ℕ, ◌⊎◌, ◌<◌, ◌≤◌, List, ◌++◌, length, drop}
use Rattle.souper_graph.specs.declared.ast.flaws.Flaw.{Flaw}
use Rattle.souper_graph.specs.declared.ast.flaws.FlawLocation.{FlawLocation}
use Rattle.souper_graph.specs.declared.ast.flaws.FlawLocation.TheVariants.{Statement, Infer, Result, Cand}
use Rattle.souper_graph.specs.declared.ast.flaws.FlawReason.{FlawReason}
use Rattle.souper_graph.specs.declared.ast.flaws.FlawReason.TheVariants.{InvalidName, EmptyBits, ZeroWidth, UseBeforeDefinition, NotAnAssignment, NotABlock, ValueCount, PredecessorOutOfRange, DuplicateName}
use Rattle.souper_graph.specs.Values.{Item}
use Rattle.souper_graph.specs.WellFormed.{WellFormed}
use Rattle.souper_graph.specs.Flaws.{IsFirstFlaw}
use Rattle.souper_graph.specs.Syntax.Spelling.{ItemType}
use Rattle.souper_widths.specs.declared.flaws.WidthFlaw.{WidthFlaw}
use Rattle.souper_widths.specs.declared.flaws.WidthReason.{WidthReason}
use Rattle.souper_widths.specs.declared.flaws.WidthReason.TheVariants.{TypedBlock, FactOnComputed, BlockAsValue, PairAsValue, NotAPair, BadIndex, Conflict, Undetermined, NotWider, NotNarrower, ByteSwap, ConstantTooWide, BitCount, SignBits, Range}
use Rattle.souper_widths.specs.Maps.{WidthMap}
use Rattle.souper_widths.specs.Typed.{Typed}
use Rattle.souper_widths.specs.Flaws.{IsFirstWidthFlaw}
use Rattle.souper_code.specs.Codes.{code_of}
use Rattle.souper_code.specs.Codable.{CodableItem}
use Rattle.souper_code.specs.Writing.{BeginsWithNone}
use Rattle.souper_width_calls.specs.declared.SouperWidths.{SouperWidths}

abbrev pub number_of_location : FlawLocation → ℕ
number_of_location (Statement p) = 1
number_of_location Infer = 2
number_of_location Result = 3
number_of_location Cand = 4

-- the position of the statement; 0 for a last line
abbrev pub position_of_location : FlawLocation → ℕ
position_of_location (Statement p) = p
position_of_location Infer = 0
position_of_location Result = 0
position_of_location Cand = 0

abbrev pub number_of_reason : FlawReason → ℕ
number_of_reason InvalidName = 1
number_of_reason EmptyBits = 2
number_of_reason ZeroWidth = 3
number_of_reason UseBeforeDefinition = 4
number_of_reason NotAnAssignment = 5
number_of_reason NotABlock = 6
number_of_reason ValueCount = 7
number_of_reason PredecessorOutOfRange = 8
number_of_reason DuplicateName = 9

-- the buffer begins with the numbers, and its other elements stay
abbrev pub FillsStart : List ℕ → List ℕ → List ℕ → Type 0
FillsStart old new numbers = (length numbers ≤ length old) × (new ≡ numbers ++ drop (length numbers) old)

abbrev pub number_of_width_reason : WidthReason → ℕ
number_of_width_reason TypedBlock = 1
number_of_width_reason FactOnComputed = 2
number_of_width_reason BlockAsValue = 3
number_of_width_reason PairAsValue = 4
number_of_width_reason NotAPair = 5
number_of_width_reason BadIndex = 6
number_of_width_reason (Conflict left right) = 7
number_of_width_reason Undetermined = 8
number_of_width_reason NotWider = 9
number_of_width_reason NotNarrower = 10
number_of_width_reason ByteSwap = 11
number_of_width_reason ConstantTooWide = 12
number_of_width_reason BitCount = 13
number_of_width_reason SignBits = 14
number_of_width_reason Range = 15

-- the widths that clash
abbrev pub left_of : WidthReason → ℕ
left_of (Conflict left right) = left
left_of r = 0

abbrev pub right_of : WidthReason → ℕ
right_of (Conflict left right) = right
right_of r = 0

abbrev pub widths_without : ℕ → SouperWidths
widths_without status = record { status = status; location = 0; reason = 0; left = 0; right = 0; root = 0; position = 0; length = 0 }

abbrev pub ill_formed_widths : Flaw → SouperWidths
ill_formed_widths flaw = record { status = 8; location = number_of_location flaw.location; reason = number_of_reason flaw.reason; left = 0; right = 0; root = 0; position = position_of_location flaw.location; length = 0 }

abbrev pub flawed_widths : WidthFlaw → SouperWidths
flawed_widths flaw = record { status = 10; location = number_of_location flaw.location; reason = number_of_width_reason flaw.reason; left = left_of flaw.reason; right = right_of flaw.reason; root = 0; position = position_of_location flaw.location; length = 0 }

-- the widths of the results, and then those of the operands
abbrev pub numbers_of : WidthMap → List ℕ
numbers_of m = m.results ++ m.operands

abbrev pub found_widths : ℕ → WidthMap → SouperWidths
found_widths status m = record { status = status; location = 0; reason = 0; left = 0; right = 0; root = m.root; position = 0; length = length (numbers_of m) }

-- the widths were written to the buffer, if it has the room
abbrev pub WritesWidths : WidthMap → List ℕ → SouperWidths → List ℕ → Type 0
WritesWidths m old r new = (length (numbers_of m) ≤ length old → (r ≡ found_widths 0 m) × FillsStart old new (numbers_of m))
    × (length old < length (numbers_of m) → (r ≡ found_widths 5 m) × (new ≡ old))

-- the item has widths, or is not well formed, or has none; or memory ran out
abbrev pub AnswersItem : Item → List ℕ → SouperWidths → List ℕ → Type 0
AnswersItem x old r new = ((m : WidthMap) × WellFormed x × Typed x m × WritesWidths m old r new)
    ⊎ (((flaw : Flaw) × (r ≡ ill_formed_widths flaw) × IsFirstFlaw x flaw × (new ≡ old))
    ⊎ (((flaw : WidthFlaw) × (r ≡ flawed_widths flaw) × WellFormed x × IsFirstWidthFlaw x flaw × (new ≡ old))
    ⊎ ((r ≡ widths_without 3) × (new ≡ old))))

-- the bytes begin with the code of an item of the type, of which this is said, or of none; or memory ran out
abbrev pub IsWidthsAnswer : ItemType → List ℕ → List ℕ → SouperWidths → List ℕ → Type 0
IsWidthsAnswer k code old r new = ((x : Item) × (rest : List ℕ) × CodableItem k x × (code ≡ code_of x ++ rest) × AnswersItem x old r new)
    ⊎ (((r ≡ widths_without 7) × BeginsWithNone k code × (new ≡ old)) ⊎ ((r ≡ widths_without 3) × (new ≡ old)))
