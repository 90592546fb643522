-- The places of a written item: their shape, equations and limits.
use Rattle.std.proofs.Common.{◌≡◌, ◌≢◌, ℕ, zero, suc, ◌+◌, ◌<◌, ◌≤◌, ◌⊎◌, inl, inr, List, [], ◌∷◌, ◌++◌, Bool, true, false, map, length, Option, Some, None, refl, sym, ap, subst, ◌∙◌, arith}
use Rattle.std.specs.Prelude.{ℤ, pos, negsuc, flat_map, if◌then◌else◌, nat_eq, ◌&&◌, option_map, is_some, IsNone}
use Rattle.std.specs.List.{AllByRecursion}
use Rattle.std.proofs.lemmas.List.{length-map}
use Rattle.std.proofs.lemmas.Bool.Decides.{eqb_tells}
use Rattle.souper_graph.specs.declared.ast.operands.«Type».{«Type» as Ty}
use Rattle.souper_graph.specs.declared.ast.operands.Operand.{Operand}
use Rattle.souper_graph.specs.declared.ast.operands.Operand.TheVariants.{Value, Constant}
use Rattle.souper_graph.specs.declared.ast.instructions.Instruction.{Instruction}
use Rattle.souper_graph.specs.declared.ast.instructions.Instruction.TheVariants.{Select as select_word, Zext, Sext, Trunc, Bswap, ExtractValue}
use Rattle.souper_graph.specs.Instructions.{operands_of}
use Rattle.souper_graph.specs.Values.{PlainAttribute, known_bits, sign_bits, range, PlainRhs, var, block, phi, reserved_inst, reserved_const, instruction, PlainAssignment, PlainStatement, assigned, condition, block_condition}
use Rattle.souper_graph.specs.WellFormed.{IsBlockRhs, FitsOperand, FitsRhs, FitsStatement}
use Rattle.souper_graph.proofs.Judging.Closed.{All-both, All-first, All-second}
use Rattle.souper_widths.specs.declared.flaws.WidthReason.{WidthReason}
use Rattle.souper_widths.specs.declared.flaws.WidthReason.TheVariants.{BlockAsValue, PairAsValue, NotAPair, BadIndex}
use Rattle.souper_widths.specs.declared.rows.Row.{Row}
use Rattle.souper_widths.specs.declared.rows.Row.TheVariants.{Input, Block, Phi, Same, Bit, Resized, Select, Pair, Number, Overflow, BadPart, Condition}
use Rattle.souper_widths.specs.Maps.{WidthMap, result_width, operand_width}
use Rattle.souper_widths.specs.Equations.{Width, result_of, operands_at, bits, width_by, Holds, type_equations, operand_equations}
use Rattle.souper_widths.specs.Table.{part_of_number, part_at, instruction_row, rhs_row, row_of, operands_of_rhs, operands_in, row_equations, row_operands, written_type, statement_operands, statement_equations}
use Rattle.souper_widths.specs.Places.{optional_operands}
use Rattle.souper_widths.specs.Shape.{IsInput, IsFact, IsPairRow, IsPair, IsPairOperand, IsBlockOperand, further, single_operands, FirstIsPair, TakesPair, HasPart, HasNoType, HasOwnFacts, ShapedOperands, ShapedStatement, ShapedOptional, shape_reasons}
use Rattle.souper_widths.specs.Limits.{bits_of, IsRange, Widens, Narrows, HasBytePairs, HasBitCount, HasSignBits, HasRange, FitsOperandWidth, OnInstruction, KeepsStatement, limit_reasons}
use Rattle.souper_typed.specs.declared.form.Form.{Form}
use Rattle.souper_typed.specs.Numbers.{type_of, written_number}
use Rattle.souper_typed.specs.Written.{written_operand, written_index, written_instruction, written_rhs, written_attribute, written_statement, has_none, written_with, written_from}
use Rattle.souper_typed.proofs.WrittenNumbers.{type-holds, type-held, number-fits, number-bits}
use Rattle.souper_typed.proofs.Lists.{all-map}
use Rattle.souper_typed.proofs.WrittenOperands.{written_operands, row-all}
use Rattle.souper_typed.proofs.Equations.{written_pair, row-pairs, pairs-hold, pairs-held, row-first, pairs-bits, FitsFirstPart}
use Rattle.souper_typed.proofs.WrittenStatements.{Alike, row-is, operands-are}
use Rattle.souper_typed.proofs.Graphs.{on-written, block-from}

-- the three parts of the equations of a statement
abbrev pub HoldsType : WidthMap → ℕ → PlainStatement → Type 0
HoldsType m p s = AllByRecursion (Holds m) (type_equations (written_type s) (result_of p))

abbrev pub HoldsRow : WidthMap → ℕ → Row → Type 0
HoldsRow m p r = AllByRecursion (Holds m) (row_equations p r)

abbrev pub HoldsPairs : WidthMap → List (Operand × Width) → Type 0
HoldsPairs m zs = AllByRecursion (Holds m) (flat_map operand_equations zs)

abbrev pub HoldsStatement : WidthMap → ℕ → PlainStatement → Type 0
HoldsStatement m p s = AllByRecursion (Holds m) (statement_equations p (Some s))

pub type-part : (m : WidthMap) (p : ℕ) (s : PlainStatement) → HoldsStatement m p s → HoldsType m p s
type-part m p s h = All-first (Holds m) (type_equations (written_type s) (result_of p)) (row_equations p (row_of s) ++ flat_map operand_equations (statement_operands p s)) h

rest-part : (m : WidthMap) (p : ℕ) (s : PlainStatement) → HoldsStatement m p s → AllByRecursion (Holds m) (row_equations p (row_of s) ++ flat_map operand_equations (statement_operands p s))
rest-part m p s h = All-second (Holds m) (type_equations (written_type s) (result_of p)) (row_equations p (row_of s) ++ flat_map operand_equations (statement_operands p s)) h

pub row-part : (m : WidthMap) (p : ℕ) (s : PlainStatement) → HoldsStatement m p s → HoldsRow m p (row_of s)
row-part m p s h = All-first (Holds m) (row_equations p (row_of s)) (flat_map operand_equations (statement_operands p s)) (rest-part m p s h)

pub pairs-part : (m : WidthMap) (p : ℕ) (s : PlainStatement) → HoldsStatement m p s → HoldsPairs m (statement_operands p s)
pairs-part m p s h = All-second (Holds m) (row_equations p (row_of s)) (flat_map operand_equations (statement_operands p s)) (rest-part m p s h)

pub of-parts : (m : WidthMap) (p : ℕ) (s : PlainStatement) → HoldsType m p s → HoldsRow m p (row_of s) → HoldsPairs m (statement_operands p s) → HoldsStatement m p s
of-parts m p s t r o =
    All-both (Holds m) (type_equations (written_type s) (result_of p)) (row_equations p (row_of s) ++ flat_map operand_equations (statement_operands p s)) t
    (All-both (Holds m) (row_equations p (row_of s)) (flat_map operand_equations (statement_operands p s)) r o)

-- the statement at position p with its widths
abbrev pub typed_at : Form → WidthMap → ℕ → PlainStatement → PlainStatement
typed_at f m p s = written_statement f (result_width m p) (operand_width m p) s

pub pairs-are : (f : Form) (m : WidthMap) (p : ℕ) (s : PlainStatement) → statement_operands p (typed_at f m p s) ≡ map (written_pair f m) (statement_operands p s)
pairs-are f m p s =
    let w = result_width m p in
    let v = operand_width m p in
    ap (λ (z : Row). row_operands p z (operands_in (typed_at f m p s))) (row-is f w v s)
    ∙ ap (λ (z : List Operand). row_operands p (row_of s) z) (operands-are f w v s)
    ∙ row-pairs f m p (row_of s) (operands_in s)

type-written : (f : Form) (m : WidthMap) (p : ℕ) (s : PlainStatement) → HoldsType m p (typed_at f m p s)
type-written f m p (assigned a) = type-holds m (result_of p) (result_width m p) refl
type-written f m p (condition c) = tt
type-written f m p (block_condition c) = tt

pub statement-holds : (f : Form) (m : WidthMap) (p : ℕ) (s : PlainStatement) → HoldsStatement m p s → HoldsStatement m p (typed_at f m p s)
statement-holds f m p s h =
    of-parts m p (typed_at f m p s) (type-written f m p s)
    (subst (HoldsRow m p) (sym (row-is f (result_width m p) (operand_width m p) s)) (row-part m p s h))
    (subst (HoldsPairs m) (sym (pairs-are f m p s)) (pairs-hold f m (statement_operands p s) (pairs-part m p s h)))

type-back : (f : Form) (m o : WidthMap) (p : ℕ) (s : PlainStatement) → FitsStatement s → HoldsType m p s → HoldsType o p (typed_at f m p s) → HoldsType o p s
type-back f m o p (assigned a) fits h k = type-held m o a.ty (result_of p) (result_width m p) refl fits.type_fits h k
type-back f m o p (condition c) fits h k = tt
type-back f m o p (block_condition c) fits h k = tt

rhs-operands_fit : (x : PlainRhs) → FitsRhs x → AllByRecursion FitsOperand (operands_of_rhs x)
rhs-operands_fit (phi p) h = h
rhs-operands_fit (instruction i) h = h
rhs-operands_fit x h = tt

pub operands-fit : (s : PlainStatement) → FitsStatement s → AllByRecursion FitsOperand (operands_in s)
operands-fit (assigned a) h = rhs-operands_fit a.value h.value_fits
operands-fit (condition c) h = (h.0, (h.1, tt))
operands-fit (block_condition c) h = (h.1, (h.2, tt))

-- what solves the equations of the written statement solves those of the statement
pub statement-held : (f : Form) (m o : WidthMap) (p : ℕ) (s : PlainStatement) → FitsStatement s → HoldsStatement m p s → HoldsStatement o p (typed_at f m p s) → HoldsStatement o p s
statement-held f m o p s fits h k =
    let t : PlainStatement = typed_at f m p s in
    of-parts o p s (type-back f m o p s fits (type-part m p s h) (type-part o p t k))
    (subst (HoldsRow o p) (row-is f (result_width m p) (operand_width m p) s) (row-part o p t k))
    (pairs-held f m o (statement_operands p s) (row-first p (row_of s) (operands_in s) (operands-fit s fits)) (pairs-part m p s h) (subst (HoldsPairs o) (pairs-are f m p s) (pairs-part o p t k)))

-- a statement without widths that is needed is a block
abbrev NotEmpty : List Operand → Type 0
NotEmpty [] = ⊥
NotEmpty (x ∷ xs) = Unit {0}

abbrev HasTwo : List Operand → Type 0
HasTwo [] = ⊥
HasTwo (x ∷ xs) = NotEmpty xs

abbrev OwnOperands : Row → List Operand → Type 0
OwnOperands Block xs = ⊥
OwnOperands Same xs = NotEmpty xs
OwnOperands Condition xs = NotEmpty xs
OwnOperands Select xs = HasTwo xs
OwnOperands r xs = Unit {0}

number-own : (a b : Operand) (z : ℤ) → OwnOperands (part_of_number z) (a ∷ b ∷ [])
number-own a b (pos zero) = tt
number-own a b (pos (suc zero)) = tt
number-own a b (pos (suc (suc n))) = tt
number-own a b (negsuc n) = tt

part-own : (a b : Operand) → OwnOperands (part_at b) (a ∷ b ∷ [])
part-own a (Value i) = tt
part-own a (Constant c) = number-own a (Constant c) c.value

own-operands : (i : Instruction) → OwnOperands (instruction_row i) (operands_of i)
own-operands (ExtractValue a b) = part-own a b
own-operands i = tt

least : (m : WidthMap) (x : Operand) (n : Width) → AllByRecursion (Holds m) (operand_equations (x, n)) → 1 ≤ width_by m n
least m (Value i) n h = h.0
least m (Constant c) n h = h.0

first-least : (m : WidthMap) (x : Operand) (n : Width) (zs : List (Operand × Width)) → HoldsPairs m ((x, n) ∷ zs) → 1 ≤ width_by m n
first-least m x n zs h = least m x n (All-first (Holds m) (operand_equations (x, n)) (flat_map operand_equations zs) h)

later : (m : WidthMap) (z : Operand × Width) (zs : List (Operand × Width)) → HoldsPairs m (z ∷ zs) → HoldsPairs m zs
later m z zs h = All-second (Holds m) (operand_equations z) (flat_map operand_equations zs) h

some-width : (m : WidthMap) (p : ℕ) (r : Row) (xs : List Operand) → OwnOperands r xs → HasPart r → HoldsRow m p r → HoldsPairs m (row_operands p r xs) → 1 ≤ result_width m p + operand_width m p
some-width m p Input xs o q h k = omega (arith, h.0)
some-width m p Block xs o q h k = absurd o
some-width m p Phi xs o q h k = omega (arith, h.1.0)
some-width m p Same [] o q h k = absurd o
some-width m p Same (x ∷ xs) o q h k = let l : 1 ≤ operand_width m p = first-least m x (operands_at p) (map (λ y. (y, operands_at p)) xs) k in omega (arith, l)
some-width m p Bit xs o q h k = omega (arith, h.0)
some-width m p Resized xs o q h k = omega (arith, h.0)
some-width m p Select [] o q h k = absurd o
some-width m p Select (c ∷ []) o q h k = absurd o
some-width m p Select (c ∷ x ∷ xs) o q h k =
    let zs : List (Operand × Width) = map (λ y. (y, operands_at p)) xs in
    let l : 1 ≤ operand_width m p = first-least m x (operands_at p) zs (later m (c, bits 1) ((x, operands_at p) ∷ zs) k) in
    omega (arith, l)
some-width m p Pair xs o q h k = omega (arith, h.0)
some-width m p Number xs o q h k = omega (arith, h.1.0)
some-width m p Overflow xs o q h k = omega (arith, h.0)
some-width m p BadPart xs o q h k = absurd q
some-width m p Condition [] o q h k = absurd o
some-width m p Condition (x ∷ xs) o q h k = let l : 1 ≤ operand_width m p = first-least m x (operands_at p) (map (λ y. (y, operands_at p)) xs) k in omega (arith, l)

abbrev NoWidths : WidthMap → ℕ → Type 0
NoWidths m p = (result_width m p ≡ 0) × (operand_width m p ≡ 0)

none-some : (m : WidthMap) (p : ℕ) → NoWidths m p → 1 ≤ result_width m p + operand_width m p → ⊥
none-some m p n h = let a : result_width m p ≡ 0 = n.0 in let b : operand_width m p ≡ 0 = n.1 in let c : 1 ≤ 0 = omega (arith, a, b, h) in omega (arith, c)

rhs-block : (m : WidthMap) (p : ℕ) (x : PlainRhs) → HasPart (rhs_row x) → HoldsRow m p (rhs_row x) → HoldsPairs m (row_operands p (rhs_row x) (operands_of_rhs x)) → NoWidths m p → IsBlockRhs x
rhs-block m p var q h k n = absurd (none-some m p n (some-width m p Input [] tt q h k))
rhs-block m p (block b) q h k n = tt
rhs-block m p (phi x) q h k n = absurd (none-some m p n (some-width m p Phi x.values tt q h k))
rhs-block m p reserved_inst q h k n = absurd (none-some m p n (some-width m p Input [] tt q h k))
rhs-block m p reserved_const q h k n = absurd (none-some m p n (some-width m p Input [] tt q h k))
rhs-block m p (instruction i) q h k n = absurd (none-some m p n (some-width m p (instruction_row i) (operands_of i) (own-operands i) q h k))

rhs-stays : (f : Form) (v : ℕ) (x : PlainRhs) → IsBlockRhs x → written_rhs f v x ≡ x
rhs-stays f v (block b) h = refl
rhs-stays f v x h = absurd h

none-is : (t : Option Ty) → IsNone t → t ≡ None
none-is None n = refl
none-is (Some t) n = absurd (cc)

type-none : (x : PlainRhs) (t : Option Ty) → IsBlockRhs x → HasNoType (rhs_row x) t → t ≡ None
type-none (block b) t h n = none-is t n
type-none x t h n = absurd h

block-no_input : (x : PlainRhs) → IsBlockRhs x → IsInput x → ⊥
block-no_input (block b) h i = i
block-no_input x h i = h

attribute-stays : (f : Form) (w : ℕ) (y : PlainAttribute) → (IsFact y → ⊥) → written_attribute f w y ≡ y
attribute-stays f w (range low high) h = absurd (h tt)
attribute-stays f w y h = refl

attributes-stay : (f : Form) (w : ℕ) (x : PlainRhs) (ys : List PlainAttribute) → IsBlockRhs x → AllByRecursion (λ y. IsFact y → IsInput x) ys → map (written_attribute f w) ys ≡ ys
attributes-stay f w x [] b h = refl
attributes-stay f w x (y ∷ ys) b h =
    ap (λ (z : PlainAttribute). z ∷ map (written_attribute f w) ys) (attribute-stays f w y (λ k. block-no_input x b (h.0 k))) ∙ ap (λ (z : List PlainAttribute). y ∷ z) (attributes-stay f w x ys b h.1)

block-stays : (f : Form) (w v : ℕ) (a : PlainAssignment) → IsBlockRhs a.value → HasNoType (rhs_row a.value) a.ty → HasOwnFacts (assigned a) → w ≡ 0 → written_statement f w v (assigned a) ≡ assigned a
block-stays f w v a b n h e =
    let t : List PlainAttribute = map (written_attribute f w) a.attributes in
    ap (λ (z : Option Ty). assigned (record { name = a.name; ty = z; value = written_rhs f v a.value; attributes = t })) (ap type_of e ∙ sym (type-none a.value a.ty b n))
    ∙ ap (λ (z : PlainRhs). assigned (record { name = a.name; ty = a.ty; value = z; attributes = t })) (rhs-stays f v a.value b)
    ∙ ap (λ (z : List PlainAttribute). assigned (record { name = a.name; ty = a.ty; value = a.value; attributes = z })) (attributes-stay f w a.value a.attributes b h)

pub statement-stays : (f : Form) (m : WidthMap) (p : ℕ) (ss : List PlainStatement) (s : PlainStatement) → AllByRecursion (ShapedStatement ss s) shape_reasons → HoldsStatement m p s → NoWidths m p → typed_at f m p s ≡ s
statement-stays f m p ss (assigned a) shape h n =
    block-stays f (result_width m p) (operand_width m p) a (rhs-block m p a.value shape.1.1.1.1.1.0 (row-part m p (assigned a) h) (pairs-part m p (assigned a) h) n) shape.0 shape.1.0 n.0
statement-stays f m p ss (condition c) shape h n = absurd (none-some m p n (some-width m p Condition (c.x ∷ c.y ∷ []) tt tt (row-part m p (condition c) h) (pairs-part m p (condition c) h)))
statement-stays f m p ss (block_condition c) shape h n = absurd (none-some m p n (some-width m p Condition (c.x ∷ c.y ∷ []) tt tt (row-part m p (block_condition c) h) (pairs-part m p (block_condition c) h)))

pub none-tells : (w v : ℕ) → ((has_none w v ≡ true) × (w ≡ 0) × (v ≡ 0)) ⊎ (has_none w v ≡ false)
none-tells w v = elim (eqb_tells w 0) [
  | inl s ↦ elim (eqb_tells v 0) [
    | inl t ↦ inl (both (nat_eq w 0) (nat_eq v 0) true s.0 t.0, s.1, t.1)
    | inr t ↦ inr (both (nat_eq w 0) (nat_eq v 0) false s.0 t.0)
  ]
  | inr s ↦ inr (first (nat_eq w 0) (nat_eq v 0) s.0)
]
  where
    both : (x y c : Bool) → x ≡ true → y ≡ c → (x && y) ≡ c
    both x y c p q = rw p q

    first : (x y : Bool) → x ≡ false → (x && y) ≡ false
    first x y p = rw p refl

pub none-true : (w v : ℕ) → w ≡ 0 → v ≡ 0 → has_none w v ≡ true
none-true w v e h = ap (λ (z : ℕ). has_none z v) e ∙ ap (λ (z : ℕ). has_none 0 z) h

-- a needed statement has its widths
pub statement-typed : (f : Form) (m : WidthMap) (p : ℕ) (ss : List PlainStatement) (s : PlainStatement) → AllByRecursion (ShapedStatement ss s) shape_reasons → HoldsStatement m p s → written_with f (result_width m p) (operand_width m p) s ≡ typed_at f m p s
statement-typed f m p ss s shape h = elim (none-tells (result_width m p) (operand_width m p)) [
  | inl t ↦ ap (λ (b : Bool). if b then s else typed_at f m p s) t.0 ∙ sym (statement-stays f m p ss s shape h (t.1, t.2))
  | inr t ↦ ap (λ (b : Bool). if b then s else typed_at f m p s) t
]

-- shape
pair-from : (f : Form) (m : WidthMap) (ss : List PlainStatement) (i : ℕ) → IsPairOperand (written_from f m 0 ss) (Value i) → IsPairOperand ss (Value i)
pair-from f m ss i = on-written (λ o q. IsPair q → IsPair o) (λ h. h) (λ s t a h. subst IsPairRow a.row h) f m ss i

pub pair-to : (f : Form) (m : WidthMap) (ss : List PlainStatement) (i : ℕ) → IsPairOperand ss (Value i) → IsPairOperand (written_from f m 0 ss) (Value i)
pair-to f m ss i = on-written (λ o q. IsPair o → IsPair q) (λ h. h) (λ s t a h. subst IsPairRow (sym a.row) h) f m ss i

no-block : (f : Form) (m : WidthMap) (ss : List PlainStatement) (n : ℕ) (x : Operand) → ¬ IsBlockOperand ss x → ¬ IsBlockOperand (written_from f m 0 ss) (written_operand f n x)
no-block f m ss n (Value i) h = λ b. h (block-from f m ss i b)
no-block f m ss n (Constant c) h = h

no-block_index : (f : Form) (m : WidthMap) (ss : List PlainStatement) (x : Operand) → ¬ IsBlockOperand ss x → ¬ IsBlockOperand (written_from f m 0 ss) (written_index f x)
no-block_index f m ss (Value i) h = λ b. h (block-from f m ss i b)
no-block_index f m ss (Constant c) h = h

no-pair : (f : Form) (m : WidthMap) (ss : List PlainStatement) (n : ℕ) (x : Operand) → ¬ IsPairOperand ss x → ¬ IsPairOperand (written_from f m 0 ss) (written_operand f n x)
no-pair f m ss n (Value i) h = λ b. h (pair-from f m ss i b)
no-pair f m ss n (Constant c) h = h

no-pair_index : (f : Form) (m : WidthMap) (ss : List PlainStatement) (x : Operand) → ¬ IsPairOperand ss x → ¬ IsPairOperand (written_from f m 0 ss) (written_index f x)
no-pair_index f m ss (Value i) h = λ b. h (pair-from f m ss i b)
no-pair_index f m ss (Constant c) h = h

a-pair : (f : Form) (m : WidthMap) (ss : List PlainStatement) (n : ℕ) (x : Operand) → IsPairOperand ss x → IsPairOperand (written_from f m 0 ss) (written_operand f n x)
a-pair f m ss n (Value i) h = pair-to f m ss i h
a-pair f m ss n (Constant c) h = h

abbrev NoPairs : List PlainStatement → List Operand → Type 0
NoPairs ss xs = AllByRecursion (λ x. ¬ IsPairOperand ss x) xs

each-no_pair : (f : Form) (m : WidthMap) (ss : List PlainStatement) (v : ℕ) (xs : List Operand) → NoPairs ss xs → NoPairs (written_from f m 0 ss) (map (written_operand f v) xs)
each-no_pair f m ss v xs h = all-map (λ x. ¬ IsPairOperand ss x) (λ x. ¬ IsPairOperand (written_from f m 0 ss) x) (written_operand f v) (no-pair f m ss v) xs h

each-no_index : (f : Form) (m : WidthMap) (ss : List PlainStatement) (xs : List Operand) → NoPairs ss xs → NoPairs (written_from f m 0 ss) (map (written_index f) xs)
each-no_index f m ss xs h = all-map (λ x. ¬ IsPairOperand ss x) (λ x. ¬ IsPairOperand (written_from f m 0 ss) x) (written_index f) (no-pair_index f m ss) xs h

single-all : (f : Form) (m : WidthMap) (ss : List PlainStatement) (r : Row) (v : ℕ) (xs : List Operand) → NoPairs ss (single_operands r xs) → NoPairs (written_from f m 0 ss) (single_operands r (written_operands f r v xs))
single-all f m ss Select v (x ∷ xs) h = (no-pair f m ss 1 x h.0, each-no_pair f m ss v xs h.1)
single-all f m ss Number v [] h = tt
single-all f m ss Number v (x ∷ xs) h = each-no_index f m ss xs h
single-all f m ss Overflow v [] h = tt
single-all f m ss Overflow v (x ∷ xs) h = each-no_index f m ss xs h
single-all f m ss BadPart v [] h = tt
single-all f m ss BadPart v (x ∷ xs) h = each-no_index f m ss xs h
single-all f m ss r v xs h = each-no_pair f m ss v xs h

takes-pair : (f : Form) (m : WidthMap) (ss : List PlainStatement) (r : Row) (v : ℕ) (xs : List Operand) → TakesPair ss r xs → TakesPair (written_from f m 0 ss) r (written_operands f r v xs)
takes-pair f m ss Number v [] h = tt
takes-pair f m ss Number v (x ∷ xs) h = a-pair f m ss v x h
takes-pair f m ss Overflow v [] h = tt
takes-pair f m ss Overflow v (x ∷ xs) h = a-pair f m ss v x h
takes-pair f m ss BadPart v [] h = tt
takes-pair f m ss BadPart v (x ∷ xs) h = a-pair f m ss v x h
takes-pair f m ss r v xs h = tt

pub operands-shaped : (f : Form) (m : WidthMap) (ss : List PlainStatement) (r : Row) (v : ℕ) (xs : List Operand) (q : WidthReason) → ShapedOperands ss r xs q → ShapedOperands (written_from f m 0 ss) r (written_operands f r v xs) q
operands-shaped f m ss r v xs BlockAsValue h = row-all (λ x. ¬ IsBlockOperand ss x) (λ x. ¬ IsBlockOperand (written_from f m 0 ss) x) f v (no-block f m ss) (no-block_index f m ss) r xs h
operands-shaped f m ss r v xs PairAsValue h = single-all f m ss r v xs h
operands-shaped f m ss r v xs NotAPair h = takes-pair f m ss r v xs h
operands-shaped f m ss r v xs BadIndex h = h
operands-shaped f m ss r v xs q h = tt

shaped-by : (ts : List PlainStatement) (t : PlainStatement) (r : Row) (xs : List Operand) (q : WidthReason) → row_of t ≡ r → operands_in t ≡ xs → ShapedOperands ts r xs q → ShapedOperands ts (row_of t) (operands_in t) q
shaped-by ts t r xs q e g h = subst (λ (z : Row). ShapedOperands ts z (operands_in t) q) (sym e) (subst (λ (z : List Operand). ShapedOperands ts r z q) (sym g) h)

typed-shaped : (f : Form) (m : WidthMap) (ss : List PlainStatement) (p : ℕ) (s : PlainStatement) (q : WidthReason) → ShapedOperands ss (row_of s) (operands_in s) q
    → ShapedOperands (written_from f m 0 ss) (row_of (typed_at f m p s)) (operands_in (typed_at f m p s)) q
typed-shaped f m ss p s q h =
    let w = result_width m p in
    let v = operand_width m p in
    shaped-by (written_from f m 0 ss) (typed_at f m p s) (row_of s) (written_operands f (row_of s) v (operands_in s)) q (row-is f w v s) (operands-are f w v s) (operands-shaped f m ss (row_of s) v (operands_in s) q h)

no-type : (r : Row) (w : ℕ) → (r ≡ Block → w ≡ 0) → HasNoType r (type_of w)
no-type Block w h = ap (λ (z : ℕ). is_some (type_of z)) (h refl)
no-type r w h = tt

block-width : (m : WidthMap) (p : ℕ) (r : Row) → HoldsRow m p r → r ≡ Block → result_width m p ≡ 0
block-width m p r h e = (subst (HoldsRow m p) e h).0

typed-no_type : (f : Form) (m : WidthMap) (p : ℕ) (s : PlainStatement) → HoldsRow m p (row_of s) → HasNoType (row_of (typed_at f m p s)) (written_type (typed_at f m p s))
typed-no_type f m p (assigned a) h =
    subst (λ (z : Row). HasNoType z (type_of (result_width m p))) (sym (row-is f (result_width m p) (operand_width m p) (assigned a))) (no-type (rhs_row a.value) (result_width m p) (block-width m p (rhs_row a.value) h))
typed-no_type f m p (condition c) h = tt
typed-no_type f m p (block_condition c) h = tt

fact-from : (f : Form) (w : ℕ) (x : PlainAttribute) → IsFact (written_attribute f w x) → IsFact x
fact-from f w (range low high) h = h
fact-from f w x h = h

input-to : (f : Form) (v : ℕ) (x : PlainRhs) → IsInput x → IsInput (written_rhs f v x)
input-to f v (block b) h = h
input-to f v x h = h

typed-facts : (f : Form) (m : WidthMap) (p : ℕ) (s : PlainStatement) → HasOwnFacts s → HasOwnFacts (typed_at f m p s)
typed-facts f m p (assigned a) h =
    let w = result_width m p in
    let v = operand_width m p in
    all-map (λ y. IsFact y → IsInput a.value) (λ y. IsFact y → IsInput (written_rhs f v a.value)) (written_attribute f w) (λ y k g. input-to f v a.value (k (fact-from f w y g))) a.attributes h
typed-facts f m p (condition c) h = tt
typed-facts f m p (block_condition c) h = tt

pub statement-shaped : (f : Form) (m : WidthMap) (ss : List PlainStatement) (p : ℕ) (s : PlainStatement) → HoldsStatement m p s → AllByRecursion (ShapedStatement ss s) shape_reasons → AllByRecursion (ShapedStatement (written_from f m 0 ss) (typed_at f m p s)) shape_reasons
statement-shaped f m ss p s h shape = (
  typed-no_type f m p s (row-part m p s h),
  (
    typed-facts f m p s shape.1.0,
    (
      typed-shaped f m ss p s BlockAsValue shape.1.1.0,
      (typed-shaped f m ss p s PairAsValue shape.1.1.1.0, (typed-shaped f m ss p s NotAPair shape.1.1.1.1.0, (typed-shaped f m ss p s BadIndex shape.1.1.1.1.1.0, tt))),
    ),
  ),
)

-- limits
on-instruction : (f : Form) (v : ℕ) (P : Instruction → Type 0) → ((i : Instruction) → P i → P (written_instruction f v i)) → (x : PlainRhs) → OnInstruction P x → OnInstruction P (written_rhs f v x)
on-instruction f v P k (instruction i) h = k i h
on-instruction f v P k x h = tt

widens : (f : Form) (v w : ℕ) (i : Instruction) → Widens v w i → Widens v w (written_instruction f v i)
widens f v w (Zext a) h = h
widens f v w (Sext a) h = h
widens f v w i h = tt

narrows : (f : Form) (v w : ℕ) (i : Instruction) → Narrows v w i → Narrows v w (written_instruction f v i)
narrows f v w (Trunc a) h = h
narrows f v w i h = tt

byte-pairs : (f : Form) (v w : ℕ) (i : Instruction) → HasBytePairs w i → HasBytePairs w (written_instruction f v i)
byte-pairs f v w (Bswap a) h = h
byte-pairs f v w i h = tt

bit-count : (f : Form) (w : ℕ) (x : PlainAttribute) → HasBitCount w x → HasBitCount w (written_attribute f w x)
bit-count f w (known_bits bs) h = h
bit-count f w x h = tt

sign-count : (f : Form) (w : ℕ) (x : PlainAttribute) → HasSignBits w x → HasSignBits w (written_attribute f w x)
sign-count f w (sign_bits n) h = h
sign-count f w x h = tt

range-bits : (w i j k l : ℕ) → k ≡ i → l ≡ j → IsRange w i j → IsRange w k l
range-bits w i j k l e g h = subst (λ (z : ℕ). IsRange w z l) (sym e) (subst (λ (z : ℕ). IsRange w i z) (sym g) h)

range-ends : (f : Form) (w : ℕ) (x : PlainAttribute) → HasRange w x → HasRange w (written_attribute f w x)
range-ends f w (range low high) h = (
  number-fits f w low h.0,
  number-fits f w high h.1,
  range-bits w (bits_of w low) (bits_of w high) (bits_of w (written_number f w low)) (bits_of w (written_number f w high)) (number-bits f w low) (number-bits f w high) h.2,
)
range-ends f w x h = tt

keeps-pairs : (f : Form) (m : WidthMap) (p : ℕ) (s : PlainStatement) → AllByRecursion (FitsOperandWidth m) (statement_operands p s) → AllByRecursion (FitsOperandWidth m) (statement_operands p (typed_at f m p s))
keeps-pairs f m p s h = subst (AllByRecursion (FitsOperandWidth m)) (sym (pairs-are f m p s)) (pairs-bits f m (statement_operands p s) h)

pub statement-keeps : (f : Form) (m : WidthMap) (p : ℕ) (s : PlainStatement) → AllByRecursion (KeepsStatement m p (Some s)) limit_reasons → AllByRecursion (KeepsStatement m p (Some (typed_at f m p s))) limit_reasons
statement-keeps f m p (assigned a) h =
    let w = result_width m p in
    let v = operand_width m p in (
      on-instruction f v (Widens v w) (widens f v w) a.value h.0,
      (
        on-instruction f v (Narrows v w) (narrows f v w) a.value h.1.0,
        (
          on-instruction f v (HasBytePairs w) (byte-pairs f v w) a.value h.1.1.0,
          (
            keeps-pairs f m p (assigned a) h.1.1.1.0,
            (
              all-map (HasBitCount w) (HasBitCount w) (written_attribute f w) (bit-count f w) a.attributes h.1.1.1.1.0,
              (
                all-map (HasSignBits w) (HasSignBits w) (written_attribute f w) (sign-count f w) a.attributes h.1.1.1.1.1.0,
                (all-map (HasRange w) (HasRange w) (written_attribute f w) (range-ends f w) a.attributes h.1.1.1.1.1.1.0, tt),
              ),
            ),
          ),
        ),
      ),
    )
statement-keeps f m p (condition c) h = (tt, (tt, (tt, (keeps-pairs f m p (condition c) h.1.1.1.0, (tt, (tt, (tt, tt)))))))
statement-keeps f m p (block_condition c) h = (tt, (tt, (tt, (keeps-pairs f m p (block_condition c) h.1.1.1.0, (tt, (tt, (tt, tt)))))))
