-- Definitions. Why an item has no widths, in words.
use Rattle.std.specs.Prelude.{ℕ, List, ◌++◌, codes, decimal}
use Rattle.souper_widths.specs.declared.flaws.WidthReason.{WidthReason}
use Rattle.souper_widths.specs.declared.flaws.WidthReason.TheVariants.{TypedBlock, FactOnComputed, BlockAsValue, PairAsValue, NotAPair, BadIndex, Conflict, Undetermined, NotWider, NotNarrower, ByteSwap, ConstantTooWide, BitCount, SignBits, Range}

abbrev pub words_of : WidthReason → List ℕ
words_of TypedBlock = codes "a block has no width"
words_of FactOnComputed = codes "only an input has facts"
words_of BlockAsValue = codes "a block is no value"
words_of PairAsValue = codes "only extractvalue takes the value of a word .with.overflow"
words_of NotAPair = codes "extractvalue takes the value of a word .with.overflow"
words_of BadIndex = codes "the index of extractvalue is 0 or 1"
words_of (Conflict left right) = codes "two widths"
words_of Undetermined = codes "a width is missing"
words_of NotWider = codes "the result is not wider than the operand"
words_of NotNarrower = codes "the result is not narrower than the operand"
words_of ByteSwap = codes "the width of bswap is a multiple of 16"
words_of ConstantTooWide = codes "a constant does not fit its width"
words_of BitCount = codes "not as many bits as the width"
words_of SignBits = codes "more sign bits than the width"
words_of Range = codes "not a range of the width"

-- of two widths that clash both are named
abbrev pub reason_text : WidthReason → List ℕ
reason_text (Conflict left right) = codes "i" ++ (decimal left ++ (codes " and i" ++ (decimal right ++ codes " clash")))
reason_text r = words_of r

abbrev pub message_of : WidthReason → List ℕ
message_of r = codes "no widths: " ++ reason_text r
