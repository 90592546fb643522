-- A needed statement of a well-formed item with a shape meets the premises of both bridges.
use Rattle.std.proofs.Common.{◌≡◌, ◌≢◌, ℕ, ◌-◌, ◌*◌, ◌<◌, ◌≤◌, inl, inr, List, [], ◌∷◌, length, Option, Some, None, refl, ap, subst, ◌∙◌, arith}
use Rattle.std.specs.Prelude.{slice_get}
use Rattle.std.specs.List.{AllByRecursion}
use Rattle.souper_graph.specs.declared.ast.operands.«Type».{«Type» as Ty}
use Rattle.souper_graph.specs.declared.ast.operands.Operand.{Operand}
use Rattle.souper_graph.specs.declared.ast.operands.Operand.TheVariants.{Value, Constant}
use Rattle.souper_graph.specs.declared.ast.flaws.FlawLocation.TheVariants.{Statement}
use Rattle.souper_graph.specs.Values.{PlainStatement, assigned, condition, block_condition, Item}
use Rattle.souper_graph.specs.Uses.{NeededIn}
use Rattle.souper_graph.specs.WellFormed.{FitsOptionalType, FitsStatement, WellFormed}
use Rattle.souper_widths.specs.declared.rows.Row.{Row}
use Rattle.souper_widths.specs.declared.rows.Row.TheVariants.{Input, Block, Phi, Same, Bit, Resized, Select, Pair, Number as number_row, Overflow, BadPart, Condition}
use Rattle.souper_widths.specs.Maps.{WidthMap, result_width}
use Rattle.souper_widths.specs.Table.{rhs_row, row_of, operands_in, written_type}
use Rattle.souper_widths.specs.Shape.{IsPairRow, IsPairOperand, IsBlockOperand, single_operands, TakesPair, HasPart, HasNoType, ShapedStatement, ShapedOptional, shape_reasons, HasShape}
use Rattle.souper_widths.specs.Flaws.{HasOneBit, IsNarrowPairStatement}
use Rattle.souper_widths.specs.Ties.{shown_result}
use Rattle.souper_widths.specs.Nodes.{row_at, optional_row, FollowsMap, ShowsNodes, OperandMet, HasRowOperands}
use Rattle.souper_widths.proofs.Forests.{one_or_other}
use Rattle.souper_widths.proofs.OwnRows.{rhs-no_condition, pair-more, single-more, pair-shown, single-shown}
use Rattle.souper_widths.proofs.MetOperands.{statement-met}
use Rattle.souper_widths.proofs.Bridges.{OperandNode, AreNodes, RowNodes, IsWiderType, OperandShown}
use Rattle.souper_widths.proofs.BridgesBack.{RowShown, TypeShown}

-- no operand is a block, none but the first of extractvalue a pair, and the shape of what is at the location
abbrev pub SinglesOf : Item → List Operand → Type 0
SinglesOf a xs = AllByRecursion (λ x. ¬ IsPairOperand a.statements x) xs

abbrev pub NoBlocks : Item → List Operand → Type 0
NoBlocks a xs = AllByRecursion (λ x. ¬ IsBlockOperand a.statements x) xs

pub single-node : (a : Item) (m : WidthMap) (u : ℕ → ℕ) (p : ℕ) (x : Operand) → FollowsMap a m u → p ≤ length a.statements → OperandMet a p x → ¬ IsPairOperand a.statements x → OperandNode m u 0 x
single-node a m u p (Value i) f l h n = f.results i (omega (arith, h.0, l)) ∙ ap (λ (z : ℕ). result_width m i - z) (single-more (slice_get a.statements i) n)
single-node a m u p (Constant c) f l h n = tt

pub single-nodes : (a : Item) (m : WidthMap) (u : ℕ → ℕ) (p : ℕ) (xs : List Operand) → FollowsMap a m u → p ≤ length a.statements → AllByRecursion (OperandMet a p) xs → SinglesOf a xs → AreNodes m u 0 xs
single-nodes a m u p [] f l h n = tt
single-nodes a m u p (x ∷ xs) f l h n = (single-node a m u p x f l h.0 n.0, single-nodes a m u p xs f l h.1 n.1)

pair-node : (a : Item) (m : WidthMap) (u : ℕ → ℕ) (p : ℕ) (x : Operand) → FollowsMap a m u → p ≤ length a.statements → OperandMet a p x → IsPairOperand a.statements x → OperandNode m u 1 x
pair-node a m u p (Value i) f l h n = f.results i (omega (arith, h.0, l)) ∙ ap (λ (z : ℕ). result_width m i - z) (pair-more (slice_get a.statements i) n)
pair-node a m u p (Constant c) f l h n = tt

row-nodes : (a : Item) (m : WidthMap) (u : ℕ → ℕ) (p : ℕ) → FollowsMap a m u → p ≤ length a.statements → (r : Row) (xs : List Operand) → AllByRecursion (OperandMet a p) xs
    → SinglesOf a (single_operands r xs) → TakesPair a.statements r xs → RowNodes m u r xs
row-nodes a m u p f l Input xs h n t = single-nodes a m u p xs f l h n
row-nodes a m u p f l Block xs h n t = single-nodes a m u p xs f l h n
row-nodes a m u p f l Phi xs h n t = single-nodes a m u p xs f l h n
row-nodes a m u p f l Same xs h n t = single-nodes a m u p xs f l h n
row-nodes a m u p f l Bit xs h n t = single-nodes a m u p xs f l h n
row-nodes a m u p f l Resized xs h n t = single-nodes a m u p xs f l h n
row-nodes a m u p f l Select xs h n t = single-nodes a m u p xs f l h n
row-nodes a m u p f l Pair xs h n t = single-nodes a m u p xs f l h n
row-nodes a m u p f l number_row [] h n t = tt
row-nodes a m u p f l number_row (x ∷ xs) h n t = pair-node a m u p x f l h.0 t
row-nodes a m u p f l Overflow [] h n t = tt
row-nodes a m u p f l Overflow (x ∷ xs) h n t = pair-node a m u p x f l h.0 t
row-nodes a m u p f l BadPart xs h n t = tt
row-nodes a m u p f l Condition xs h n t = single-nodes a m u p xs f l h n

wider-type : (t : Option Ty) → FitsOptionalType t → IsWiderType 0 t
wider-type None h = tt
wider-type (Some t) h = h.0

pub single-operand : (a : Item) (m : WidthMap) (u : ℕ → ℕ) (p : ℕ) (x : Operand) → ShowsNodes a m u → HasShape a → OperandMet a p x → ¬ IsBlockOperand a.statements x → ¬ IsPairOperand a.statements x → OperandShown m u 0 x
single-operand a m u p (Value i) f s h b n =
    f.results i h.2 ∙ single-shown a.statements (slice_get a.statements i) (u (2 * i)) h.1 b n (s (Statement i) h.2).1.1.1.1.1.0
single-operand a m u p (Constant c) f s h b n = wider-type c.ty h

pub single-operands : (a : Item) (m : WidthMap) (u : ℕ → ℕ) (p : ℕ) (xs : List Operand) → ShowsNodes a m u → HasShape a → AllByRecursion (OperandMet a p) xs → NoBlocks a xs → SinglesOf a xs → AllByRecursion (OperandShown m u 0) xs
single-operands a m u p [] f s h b n = tt
single-operands a m u p (x ∷ xs) f s h b n = (single-operand a m u p x f s h.0 b.0 n.0, single-operands a m u p xs f s h.1 b.1 n.1)

pair-operand : (a : Item) (m : WidthMap) (u : ℕ → ℕ) (p : ℕ) (x : Operand) → ShowsNodes a m u → OperandMet a p x → IsPairOperand a.statements x → OperandShown m u 1 x
pair-operand a m u p (Value i) f h n = f.results i h.2 ∙ pair-shown (slice_get a.statements i) (u (2 * i)) n
pair-operand a m u p (Constant c) f h n = absurd n

pub row-shown : (a : Item) (m : WidthMap) (u : ℕ → ℕ) (p : ℕ) → ShowsNodes a m u → HasShape a → (r : Row) (xs : List Operand) → HasRowOperands r xs → AllByRecursion (OperandMet a p) xs
    → NoBlocks a xs → SinglesOf a (single_operands r xs) → TakesPair a.statements r xs → RowShown m u r xs
row-shown a m u p f s Input xs o h b n t = o
row-shown a m u p f s Block xs o h b n t = o
row-shown a m u p f s Phi xs o h b n t = single-operands a m u p xs f s h b n
row-shown a m u p f s Same xs o h b n t = single-operands a m u p xs f s h b n
row-shown a m u p f s Bit xs o h b n t = single-operands a m u p xs f s h b n
row-shown a m u p f s Resized xs o h b n t = single-operands a m u p xs f s h b n
row-shown a m u p f s Select xs o h b n t = single-operands a m u p xs f s h b n
row-shown a m u p f s Pair xs o h b n t = single-operands a m u p xs f s h b n
row-shown a m u p f s number_row [] o h b n t = tt
row-shown a m u p f s number_row (x ∷ xs) o h b n t = pair-operand a m u p x f h.0 t
row-shown a m u p f s Overflow [] o h b n t = tt
row-shown a m u p f s Overflow (x ∷ xs) o h b n t = pair-operand a m u p x f h.0 t
row-shown a m u p f s BadPart xs o h b n t = tt
row-shown a m u p f s Condition xs o h b n t = single-operands a m u p xs f s h b n

type-shown : (m : WidthMap) (u : ℕ → ℕ) (p : ℕ) (r : Row) (t : Option Ty) → result_width m p ≡ shown_result r (u (2 * p)) → r ≢ Condition → HasNoType r t → HasPart r → ¬ (IsPairRow r × HasOneBit t) → FitsOptionalType t → TypeShown m u p r t
type-shown m u p r None e c n h w f = tt
type-shown m u p Input (Some t) e c n h w f = (omega (arith, e), f.0)
type-shown m u p Block (Some t) e c n h w f = absurd (cc n)
type-shown m u p Phi (Some t) e c n h w f = (omega (arith, e), f.0)
type-shown m u p Same (Some t) e c n h w f = (omega (arith, e), f.0)
type-shown m u p Bit (Some t) e c n h w f = (omega (arith, e), f.0)
type-shown m u p Resized (Some t) e c n h w f = (omega (arith, e), f.0)
type-shown m u p Select (Some t) e c n h w f = (omega (arith, e), f.0)
type-shown m u p Pair (Some t) e c n h w f = (omega (arith, e), elim (one_or_other t.width 1) [ inl q ↦ absurd (w (tt, q)) | inr q ↦ omega (arith, q, f.0) ])
type-shown m u p number_row (Some t) e c n h w f = (omega (arith, e), f.0)
type-shown m u p Overflow (Some t) e c n h w f = (omega (arith, e), f.0)
type-shown m u p BadPart (Some t) e c n h w f = absurd h
type-shown m u p Condition (Some t) e c n h w f = absurd (c refl)

pub written-shown : (m : WidthMap) (u : ℕ → ℕ) (p : ℕ) (s : PlainStatement) → result_width m p ≡ shown_result (row_of s) (u (2 * p)) → HasNoType (row_of s) (written_type s) → HasPart (row_of s) → ¬ IsNarrowPairStatement (Some s) → FitsStatement s
    → TypeShown m u p (row_of s) (written_type s)
written-shown m u p (assigned x) e n h w f = type-shown m u p (rhs_row x.value) x.ty e (rhs-no_condition x.value) n h w f.type_fits
written-shown m u p (condition c) e n h w f = tt
written-shown m u p (block_condition c) e n h w f = tt

-- the shape of a needed statement
pub shaped : (a : Item) (p : ℕ) (s : PlainStatement) → HasShape a → NeededIn a p → slice_get a.statements p ≡ Some s → AllByRecursion (ShapedStatement a.statements s) shape_reasons
shaped a p s h n e = subst (λ (z : Option PlainStatement). AllByRecursion (ShapedOptional a.statements z) shape_reasons) e (h (Statement p) n)

pub row-is : (a : Item) (p : ℕ) (s : PlainStatement) → slice_get a.statements p ≡ Some s → row_at a.statements p ≡ row_of s
row-is a p s e = ap optional_row e

pub statement-nodes : (a : Item) (m : WidthMap) (u : ℕ → ℕ) (p : ℕ) (s : PlainStatement) → WellFormed a → HasShape a → FollowsMap a m u → p < length a.statements → NeededIn a p → slice_get a.statements p ≡ Some s
    → RowNodes m u (row_of s) (operands_in s)
statement-nodes a m u p s w h f l n e =
    let t = shaped a p s h n e in
    row-nodes a m u p f (omega (arith, l)) (row_of s) (operands_in s) (statement-met a p s w n e) t.1.1.1.0 t.1.1.1.1.0
