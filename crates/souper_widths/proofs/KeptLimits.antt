-- The limits of a place by numbers are those of the definitions.
use Rattle.std.proofs.Common.{◌≡◌, ℕ, inl, inr, List, [], ◌∷◌, Option, Some, sym, subst}
use Rattle.std.specs.List.{AllByRecursion}
use Rattle.souper_graph.specs.declared.ast.operands.Operand.{Operand}
use Rattle.souper_graph.specs.Values.{PlainRootAttribute, PlainStatement}
use Rattle.souper_widths.specs.declared.flaws.WidthReason.{WidthReason}
use Rattle.souper_widths.specs.declared.flaws.WidthReason.TheVariants.{TypedBlock, FactOnComputed, BlockAsValue, PairAsValue, NotAPair, BadIndex, Conflict, Undetermined, NotWider, NotNarrower, ByteSwap, ConstantTooWide, BitCount, SignBits, Range}
use Rattle.souper_widths.specs.declared.rows.Row.{Row}
use Rattle.souper_widths.specs.declared.rows.Row.TheVariants.{Input, Block, Phi, Same, Bit, Resized, Select, Pair, Number as number_row, Overflow, BadPart, Condition}
use Rattle.souper_widths.specs.Maps.{WidthMap, result_width, operand_width}
use Rattle.souper_widths.specs.Equations.{Width, operands_at, of_root, width_by}
use Rattle.souper_widths.specs.Table.{row_of, operands_in, each_with, row_operands}
use Rattle.souper_widths.specs.Limits.{FitsBits, FitsOperandWidth, KeepsStatement, KeepsLine, limit_reasons}
use Rattle.souper_widths.specs.Kept.{FitRow, KeptStatement, KeptLine}
use Rattle.souper_widths.specs.Flaws.{IsFirstFailing}

each-to : (m : WidthMap) (n : Width) (xs : List Operand) → AllByRecursion (FitsBits (width_by m n)) xs → AllByRecursion (FitsOperandWidth m) (each_with n xs)
each-to m n [] h = tt
each-to m n (x ∷ xs) h = (h.0, each-to m n xs h.1)

each-back : (m : WidthMap) (n : Width) (xs : List Operand) → AllByRecursion (FitsOperandWidth m) (each_with n xs) → AllByRecursion (FitsBits (width_by m n)) xs
each-back m n [] h = tt
each-back m n (x ∷ xs) h = (h.0, each-back m n xs h.1)

row-to : (m : WidthMap) (p : ℕ) (r : Row) (xs : List Operand) → FitRow (operand_width m p) r xs → AllByRecursion (FitsOperandWidth m) (row_operands p r xs)
row-to m p Input xs h = each-to m (operands_at p) xs h
row-to m p Block xs h = each-to m (operands_at p) xs h
row-to m p Phi xs h = each-to m (operands_at p) xs h
row-to m p Same xs h = each-to m (operands_at p) xs h
row-to m p Bit xs h = each-to m (operands_at p) xs h
row-to m p Resized xs h = each-to m (operands_at p) xs h
row-to m p Pair xs h = each-to m (operands_at p) xs h
row-to m p Condition xs h = each-to m (operands_at p) xs h
row-to m p Select [] h = tt
row-to m p Select (x ∷ xs) h = (h.0, each-to m (operands_at p) xs h.1)
row-to m p number_row [] h = tt
row-to m p number_row (x ∷ xs) h = (h, tt)
row-to m p Overflow [] h = tt
row-to m p Overflow (x ∷ xs) h = (h, tt)
row-to m p BadPart xs h = tt

row-back : (m : WidthMap) (p : ℕ) (r : Row) (xs : List Operand) → AllByRecursion (FitsOperandWidth m) (row_operands p r xs) → FitRow (operand_width m p) r xs
row-back m p Input xs h = each-back m (operands_at p) xs h
row-back m p Block xs h = each-back m (operands_at p) xs h
row-back m p Phi xs h = each-back m (operands_at p) xs h
row-back m p Same xs h = each-back m (operands_at p) xs h
row-back m p Bit xs h = each-back m (operands_at p) xs h
row-back m p Resized xs h = each-back m (operands_at p) xs h
row-back m p Pair xs h = each-back m (operands_at p) xs h
row-back m p Condition xs h = each-back m (operands_at p) xs h
row-back m p Select [] h = tt
row-back m p Select (x ∷ xs) h = (h.0, each-back m (operands_at p) xs h.1)
row-back m p number_row [] h = tt
row-back m p number_row (x ∷ xs) h = h.0
row-back m p Overflow [] h = tt
row-back m p Overflow (x ∷ xs) h = h.0
row-back m p BadPart xs h = tt

statement-to : (m : WidthMap) (p : ℕ) (s : PlainStatement) (r : WidthReason) → KeptStatement (result_width m p) (operand_width m p) s r → KeepsStatement m p (Some s) r
statement-to m p s TypedBlock h = h
statement-to m p s FactOnComputed h = h
statement-to m p s BlockAsValue h = h
statement-to m p s PairAsValue h = h
statement-to m p s NotAPair h = h
statement-to m p s BadIndex h = h
statement-to m p s NotWider h = h
statement-to m p s NotNarrower h = h
statement-to m p s ByteSwap h = h
statement-to m p s ConstantTooWide h = row-to m p (row_of s) (operands_in s) h
statement-to m p s BitCount h = h
statement-to m p s SignBits h = h
statement-to m p s Range h = h
statement-to m p s (Conflict x y) h = h
statement-to m p s Undetermined h = h

statement-back : (m : WidthMap) (p : ℕ) (s : PlainStatement) (r : WidthReason) → KeepsStatement m p (Some s) r → KeptStatement (result_width m p) (operand_width m p) s r
statement-back m p s TypedBlock h = h
statement-back m p s FactOnComputed h = h
statement-back m p s BlockAsValue h = h
statement-back m p s PairAsValue h = h
statement-back m p s NotAPair h = h
statement-back m p s BadIndex h = h
statement-back m p s NotWider h = h
statement-back m p s NotNarrower h = h
statement-back m p s ByteSwap h = h
statement-back m p s ConstantTooWide h = row-back m p (row_of s) (operands_in s) h
statement-back m p s BitCount h = h
statement-back m p s SignBits h = h
statement-back m p s Range h = h
statement-back m p s (Conflict x y) h = h
statement-back m p s Undetermined h = h

line-to : (m : WidthMap) (xs : List Operand) (attributes : List PlainRootAttribute) (r : WidthReason) → KeptLine m.root xs attributes r → KeepsLine m xs attributes r
line-to m xs attributes TypedBlock h = h
line-to m xs attributes FactOnComputed h = h
line-to m xs attributes BlockAsValue h = h
line-to m xs attributes PairAsValue h = h
line-to m xs attributes NotAPair h = h
line-to m xs attributes BadIndex h = h
line-to m xs attributes NotWider h = h
line-to m xs attributes NotNarrower h = h
line-to m xs attributes ByteSwap h = h
line-to m xs attributes ConstantTooWide h = each-to m of_root xs h
line-to m xs attributes BitCount h = h
line-to m xs attributes SignBits h = h
line-to m xs attributes Range h = h
line-to m xs attributes (Conflict x y) h = h
line-to m xs attributes Undetermined h = h

line-back : (m : WidthMap) (xs : List Operand) (attributes : List PlainRootAttribute) (r : WidthReason) → KeepsLine m xs attributes r → KeptLine m.root xs attributes r
line-back m xs attributes TypedBlock h = h
line-back m xs attributes FactOnComputed h = h
line-back m xs attributes BlockAsValue h = h
line-back m xs attributes PairAsValue h = h
line-back m xs attributes NotAPair h = h
line-back m xs attributes BadIndex h = h
line-back m xs attributes NotWider h = h
line-back m xs attributes NotNarrower h = h
line-back m xs attributes ByteSwap h = h
line-back m xs attributes ConstantTooWide h = each-back m of_root xs h
line-back m xs attributes BitCount h = h
line-back m xs attributes SignBits h = h
line-back m xs attributes Range h = h
line-back m xs attributes (Conflict x y) h = h
line-back m xs attributes Undetermined h = h

-- the reasons of two properties that hold together
pub all-same : (P Q : WidthReason → Type 0) → ((r : WidthReason) → P r → Q r) → (rs : List WidthReason) → AllByRecursion P rs → AllByRecursion Q rs
all-same P Q to [] h = tt
all-same P Q to (r ∷ rs) h = (to r h.0, all-same P Q to rs h.1)

pub first-same : (P Q : WidthReason → Type 0) → ((r : WidthReason) → P r → Q r) → ((r : WidthReason) → Q r → P r) → (rs : List WidthReason) (r : WidthReason) → IsFirstFailing P rs r → IsFirstFailing Q rs r
first-same P Q to back [] r h = h
first-same P Q to back (x ∷ xs) r (inl h) = inl (h.0, λ q. h.1 (back x q))
first-same P Q to back (x ∷ xs) r (inr h) = inr (to x h.0, first-same P Q to back xs r h.1)

-- no reason of a statement, by numbers, and the first one
pub statement-kept : (m : WidthMap) (p : ℕ) (s : PlainStatement) (o : Option PlainStatement) → o ≡ Some s
    → AllByRecursion (KeptStatement (result_width m p) (operand_width m p) s) limit_reasons → AllByRecursion (KeepsStatement m p o) limit_reasons
statement-kept m p s o e h = subst (λ (z : Option PlainStatement). AllByRecursion (KeepsStatement m p z) limit_reasons) (sym e)
    (all-same (KeptStatement (result_width m p) (operand_width m p) s) (KeepsStatement m p (Some s)) (statement-to m p s) limit_reasons h)

pub statement-fails : (m : WidthMap) (p : ℕ) (s : PlainStatement) (o : Option PlainStatement) (r : WidthReason) → o ≡ Some s
    → IsFirstFailing (KeptStatement (result_width m p) (operand_width m p) s) limit_reasons r → IsFirstFailing (KeepsStatement m p o) limit_reasons r
statement-fails m p s o r e h = subst (λ (z : Option PlainStatement). IsFirstFailing (KeepsStatement m p z) limit_reasons r) (sym e)
    (first-same (KeptStatement (result_width m p) (operand_width m p) s) (KeepsStatement m p (Some s)) (statement-to m p s) (statement-back m p s) limit_reasons r h)

-- of a last line
pub line-kept : (m : WidthMap) (xs : List Operand) (attributes : List PlainRootAttribute) → AllByRecursion (KeptLine m.root xs attributes) limit_reasons → AllByRecursion (KeepsLine m xs attributes) limit_reasons
line-kept m xs attributes h = all-same (KeptLine m.root xs attributes) (KeepsLine m xs attributes) (line-to m xs attributes) limit_reasons h

pub line-fails : (m : WidthMap) (xs : List Operand) (attributes : List PlainRootAttribute) (r : WidthReason) → IsFirstFailing (KeptLine m.root xs attributes) limit_reasons r → IsFirstFailing (KeepsLine m xs attributes) limit_reasons r
line-fails m xs attributes r h = first-same (KeptLine m.root xs attributes) (KeepsLine m xs attributes) (line-to m xs attributes) (line-back m xs attributes) limit_reasons r h
