-- Each equation of a place by itself: from a map to its nodes, and back.
use Rattle.std.proofs.Common.{◌≡◌, ℕ, ◌+◌, ◌-◌, ◌*◌, ◌<◌, List, [], ◌∷◌, ◌++◌, Option, Some, None, refl, sym, subst, arith}
use Rattle.std.specs.Prelude.{flat_map}
use Rattle.std.specs.List.{AllByRecursion}
use Rattle.souper_graph.specs.declared.ast.operands.«Type».{«Type» as Ty}
use Rattle.souper_graph.specs.declared.ast.operands.Operand.{Operand}
use Rattle.souper_graph.specs.declared.ast.operands.Operand.TheVariants.{Value, Constant}
use Rattle.souper_graph.specs.Values.{PlainStatement}
use Rattle.souper_graph.proofs.Judging.Closed.{All-both}
use Rattle.souper_widths.specs.declared.rows.Row.{Row}
use Rattle.souper_widths.specs.declared.rows.Row.TheVariants.{Input, Block, Phi, Same, Bit, Resized, Select, Pair, Number as number_row, Overflow, BadPart, Condition}
use Rattle.souper_widths.specs.declared.ties.Side.TheVariants.{Node, Number}
use Rattle.souper_widths.specs.Maps.{WidthMap, result_width, operand_width}
use Rattle.souper_widths.specs.Equations.{result_of, operands_at, of_root, bits, Equation, equal, at_least_one, width_by, Holds, type_equations, constant_equations, operand_equations}
use Rattle.souper_widths.specs.Table.{row_of, operands_in, written_type, row_equations, each_with, row_operands, statement_equations}
use Rattle.souper_widths.specs.Forest.{side_width}
use Rattle.souper_widths.specs.Ties.{result_more, operands_more, more_of, side_of, ties_of, AreTied, shown_result, shown_operands}
use Rattle.souper_widths.proofs.Bridges.{tied-between, tied-sides, not-zero, OperandNode, AreNodes, RowNodes, IsWiderType, OperandShown}
use Rattle.souper_widths.proofs.BridgesBack.{RowShown, TypeShown}

-- both sides of an equation are as wide as their nodes, and so much more
abbrev pub FollowsEquation : WidthMap → (ℕ → ℕ) → ℕ → Row → Equation → Type 0
FollowsEquation m u c r (equal x y) =
    (side_width u (side_of c (more_of r x y) x) ≡ width_by m x - more_of r x y) × (side_width u (side_of c (more_of r x y) y) ≡ width_by m y - more_of r x y)
FollowsEquation m u c r (at_least_one x) = Unit {0}

-- an equation holds if its sides are tied
abbrev pub TellsEquation : WidthMap → (ℕ → ℕ) → ℕ → Row → Equation → Type 0
TellsEquation m u c r e = AreTied u (ties_of c r e) → Holds m e

pub follows-tied : (m : WidthMap) (u : ℕ → ℕ) (c : ℕ) (r : Row) (e : Equation) → FollowsEquation m u c r e → Holds m e → AreTied u (ties_of c r e)
follows-tied m u c r (equal x y) f h = tied-between u (side_of c (more_of r x y) x) (side_of c (more_of r x y) y) (more_of r x y) (width_by m x) (width_by m y) f.0 f.1 h
follows-tied m u c r (at_least_one x) f h = tt

follows-type : (m : WidthMap) (u : ℕ → ℕ) (c p : ℕ) (r : Row) (t : Option Ty) → u (2 * p) ≡ result_width m p - result_more r → AllByRecursion (FollowsEquation m u c r) (type_equations t (result_of p))
follows-type m u c p r None e = tt
follows-type m u c p r (Some t) e = ((e, refl), tt)

follows-row : (m : WidthMap) (u : ℕ → ℕ) (c p : ℕ) (r : Row) → u (2 * p) ≡ result_width m p - result_more r → u (2 * p + 1) ≡ operand_width m p - operands_more r
    → AllByRecursion (FollowsEquation m u c r) (row_equations p r)
follows-row m u c p Input e f = (tt, ((omega (arith, f), refl), tt))
follows-row m u c p Block e f = ((omega (arith, e), refl), ((omega (arith, f), refl), tt))
follows-row m u c p Phi e f = ((omega (arith, e), omega (arith, f)), (tt, tt))
follows-row m u c p Same e f = ((omega (arith, e), omega (arith, f)), tt)
follows-row m u c p Bit e f = ((omega (arith, e), refl), tt)
follows-row m u c p Resized e f = (tt, tt)
follows-row m u c p Select e f = ((omega (arith, e), omega (arith, f)), tt)
follows-row m u c p Pair e f = ((omega (arith, e), omega (arith, f)), tt)
follows-row m u c p number_row e f = ((omega (arith, e), omega (arith, f)), (tt, tt))
follows-row m u c p Overflow e f = ((omega (arith, e), refl), tt)
follows-row m u c p BadPart e f = ((omega (arith, e), refl), ((omega (arith, f), refl), tt))
follows-row m u c p Condition e f = ((omega (arith, e), refl), tt)

-- an operand as wide as the others, of one bit, or as wide as the roots
follows-constant : (m : WidthMap) (u : ℕ → ℕ) (c p : ℕ) (r : Row) (t : Option Ty) → u (2 * p + 1) ≡ operand_width m p - operands_more r → AllByRecursion (FollowsEquation m u c r) (constant_equations t (operands_at p))
follows-constant m u c p r None f = tt
follows-constant m u c p r (Some t) f = ((refl, f), tt)

follows-operand : (m : WidthMap) (u : ℕ → ℕ) (c p : ℕ) (r : Row) (x : Operand) → u (2 * p + 1) ≡ operand_width m p - operands_more r → OperandNode m u (operands_more r) x
    → AllByRecursion (FollowsEquation m u c r) (operand_equations (x, operands_at p))
follows-operand m u c p r (Value i) f g = (tt, ((g, f), tt))
follows-operand m u c p r (Constant k) f g = (tt, follows-constant m u c p r k.ty f)

follows-operands : (m : WidthMap) (u : ℕ → ℕ) (c p : ℕ) (r : Row) (xs : List Operand) → u (2 * p + 1) ≡ operand_width m p - operands_more r → AreNodes m u (operands_more r) xs
    → AllByRecursion (FollowsEquation m u c r) (flat_map operand_equations (each_with (operands_at p) xs))
follows-operands m u c p r [] f g = tt
follows-operands m u c p r (x ∷ xs) f g = All-both (FollowsEquation m u c r) (operand_equations (x, operands_at p)) (flat_map operand_equations (each_with (operands_at p) xs))
    (follows-operand m u c p r x f g.0) (follows-operands m u c p r xs f g.1)

follows-bit_type : (m : WidthMap) (u : ℕ → ℕ) (c : ℕ) (t : Option Ty) → AllByRecursion (FollowsEquation m u c Select) (constant_equations t (bits 1))
follows-bit_type m u c None = tt
follows-bit_type m u c (Some t) = ((refl, refl), tt)

follows-bit : (m : WidthMap) (u : ℕ → ℕ) (c : ℕ) (x : Operand) → OperandNode m u 0 x → AllByRecursion (FollowsEquation m u c Select) (operand_equations (x, bits 1))
follows-bit m u c (Value i) g = (tt, ((g, refl), tt))
follows-bit m u c (Constant k) g = (tt, follows-bit_type m u c k.ty)

follows-root_type : (m : WidthMap) (u : ℕ → ℕ) (c : ℕ) (t : Option Ty) → u (2 * c) ≡ m.root → AllByRecursion (FollowsEquation m u c Condition) (constant_equations t of_root)
follows-root_type m u c None f = tt
follows-root_type m u c (Some t) f = ((refl, omega (arith, f)), tt)

follows-root : (m : WidthMap) (u : ℕ → ℕ) (c : ℕ) (x : Operand) → u (2 * c) ≡ m.root → OperandNode m u 0 x → AllByRecursion (FollowsEquation m u c Condition) (operand_equations (x, of_root))
follows-root m u c (Value i) f g = (tt, ((g, omega (arith, f)), tt))
follows-root m u c (Constant k) f g = (tt, follows-root_type m u c k.ty f)

-- the operands of a last line
pub follows-line : (m : WidthMap) (u : ℕ → ℕ) (c : ℕ) (xs : List Operand) → u (2 * c) ≡ m.root → AreNodes m u 0 xs → AllByRecursion (FollowsEquation m u c Condition) (flat_map operand_equations (each_with of_root xs))
follows-line m u c [] f g = tt
follows-line m u c (x ∷ xs) f g = All-both (FollowsEquation m u c Condition) (operand_equations (x, of_root)) (flat_map operand_equations (each_with of_root xs))
    (follows-root m u c x f g.0) (follows-line m u c xs f g.1)

follows-first : (m : WidthMap) (u : ℕ → ℕ) (c p : ℕ) (r : Row) (x : Operand) → u (2 * p + 1) ≡ operand_width m p - operands_more r → OperandNode m u (operands_more r) x
    → AllByRecursion (FollowsEquation m u c r) (operand_equations (x, operands_at p) ++ [])
follows-first m u c p r x f g = All-both (FollowsEquation m u c r) (operand_equations (x, operands_at p)) [] (follows-operand m u c p r x f g) tt

follows-row_operands : (m : WidthMap) (u : ℕ → ℕ) (c p : ℕ) (r : Row) (xs : List Operand) → u (2 * p + 1) ≡ operand_width m p - operands_more r → RowNodes m u r xs
    → AllByRecursion (FollowsEquation m u c r) (flat_map operand_equations (row_operands p r xs))
follows-row_operands m u c p Input xs f g = follows-operands m u c p Input xs f g
follows-row_operands m u c p Block xs f g = follows-operands m u c p Block xs f g
follows-row_operands m u c p Phi xs f g = follows-operands m u c p Phi xs f g
follows-row_operands m u c p Same xs f g = follows-operands m u c p Same xs f g
follows-row_operands m u c p Bit xs f g = follows-operands m u c p Bit xs f g
follows-row_operands m u c p Resized xs f g = follows-operands m u c p Resized xs f g
follows-row_operands m u c p Pair xs f g = follows-operands m u c p Pair xs f g
follows-row_operands m u c p Condition xs f g = follows-operands m u c p Condition xs f g
follows-row_operands m u c p Select [] f g = tt
follows-row_operands m u c p Select (x ∷ xs) f g = All-both (FollowsEquation m u c Select) (operand_equations (x, bits 1)) (flat_map operand_equations (each_with (operands_at p) xs))
    (follows-bit m u c x g.0) (follows-operands m u c p Select xs f g.1)
follows-row_operands m u c p number_row [] f g = tt
follows-row_operands m u c p number_row (x ∷ xs) f g = follows-first m u c p number_row x f g
follows-row_operands m u c p Overflow [] f g = tt
follows-row_operands m u c p Overflow (x ∷ xs) f g = follows-first m u c p Overflow x f g
follows-row_operands m u c p BadPart xs f g = tt

-- the equations of a statement
pub follows-statement : (m : WidthMap) (u : ℕ → ℕ) (c p : ℕ) (s : PlainStatement) → u (2 * p) ≡ result_width m p - result_more (row_of s) → u (2 * p + 1) ≡ operand_width m p - operands_more (row_of s)
    → RowNodes m u (row_of s) (operands_in s) → AllByRecursion (FollowsEquation m u c (row_of s)) (statement_equations p (Some s))
follows-statement m u c p s e f g =
    All-both (FollowsEquation m u c (row_of s)) (type_equations (written_type s) (result_of p)) (row_equations p (row_of s) ++ flat_map operand_equations (row_operands p (row_of s) (operands_in s)))
    (follows-type m u c p (row_of s) (written_type s) e)
    (All-both (FollowsEquation m u c (row_of s)) (row_equations p (row_of s)) (flat_map operand_equations (row_operands p (row_of s) (operands_in s)))
    (follows-row m u c p (row_of s) e f) (follows-row_operands m u c p (row_of s) (operands_in s) f g))

-- and back
tells-type : (m : WidthMap) (u : ℕ → ℕ) (c p : ℕ) (r : Row) (t : Option Ty) → TypeShown m u p r t → AllByRecursion (TellsEquation m u c r) (type_equations t (result_of p))
tells-type m u c p r None g = tt
tells-type m u c p r (Some t) g = (
  (λ h.
      let same : u (2 * p) ≡ t.width - result_more r = tied-sides u (Node (2 * p)) (Number (t.width - result_more r)) (result_more r) refl (not-zero (t.width - result_more r) (omega (arith, g))) h in
      omega (arith, g, same)),
  tt,
)

tells-row : (m : WidthMap) (u : ℕ → ℕ) (c p : ℕ) (r : Row) → result_width m p ≡ shown_result r (u (2 * p)) → operand_width m p ≡ shown_operands r (u (2 * p + 1)) → 0 < u (2 * p)
    → AllByRecursion (TellsEquation m u c r) (row_equations p r)
tells-row m u c p Input e f l = ((λ h. omega (arith, e, l)), ((λ h. omega (arith, f)), tt))
tells-row m u c p Block e f l = ((λ h. e), ((λ h. f), tt))
tells-row m u c p Phi e f l = ((λ h. omega (arith, e, f, h)), ((λ h. omega (arith, e, l)), tt))
tells-row m u c p Same e f l = ((λ h. omega (arith, e, f, h)), tt)
tells-row m u c p Bit e f l = ((λ h. omega (arith, e, h)), tt)
tells-row m u c p Resized e f l = ((λ h. omega (arith, e, l)), tt)
tells-row m u c p Select e f l = ((λ h. omega (arith, e, f, h)), tt)
tells-row m u c p Pair e f l = ((λ h. omega (arith, e, f, h)), tt)
tells-row m u c p number_row e f l = ((λ h. omega (arith, e, f, h)), ((λ h. omega (arith, e, l)), tt))
tells-row m u c p Overflow e f l = ((λ h. omega (arith, e, h)), tt)
tells-row m u c p BadPart e f l = ((λ h. e), ((λ h. f), tt))
tells-row m u c p Condition e f l = ((λ h. e), tt)

tells-constant : (m : WidthMap) (u : ℕ → ℕ) (c p : ℕ) (r : Row) (t : Option Ty) → operand_width m p ≡ u (2 * p + 1) + operands_more r → IsWiderType (operands_more r) t
    → AllByRecursion (TellsEquation m u c r) (constant_equations t (operands_at p))
tells-constant m u c p r None f g = tt
tells-constant m u c p r (Some t) f g = (
  (λ h.
      let same : t.width - operands_more r ≡ u (2 * p + 1) = tied-sides u (Number (t.width - operands_more r)) (Node (2 * p + 1)) (operands_more r) (not-zero (t.width - operands_more r) (omega (arith, g))) refl h in
      omega (arith, f, same, g)),
  tt,
)

tells-operand : (m : WidthMap) (u : ℕ → ℕ) (c p : ℕ) (r : Row) (x : Operand) → operand_width m p ≡ u (2 * p + 1) + operands_more r → 0 < u (2 * p + 1) → OperandShown m u (operands_more r) x
    → AllByRecursion (TellsEquation m u c r) (operand_equations (x, operands_at p))
tells-operand m u c p r (Value i) f l g = (
  (λ h. omega (arith, f, l)),
  (
    (λ h.
        let same : u (2 * i) ≡ u (2 * p + 1) = tied-sides u (Node (2 * i)) (Node (2 * p + 1)) (operands_more r) refl refl h in
        omega (arith, f, g, same)),
    tt,
  ),
)
tells-operand m u c p r (Constant k) f l g = ((λ h. omega (arith, f, l)), tells-constant m u c p r k.ty f g)

tells-operands : (m : WidthMap) (u : ℕ → ℕ) (c p : ℕ) (r : Row) (xs : List Operand) → operand_width m p ≡ u (2 * p + 1) + operands_more r → 0 < u (2 * p + 1) → AllByRecursion (OperandShown m u (operands_more r)) xs
    → AllByRecursion (TellsEquation m u c r) (flat_map operand_equations (each_with (operands_at p) xs))
tells-operands m u c p r [] f l g = tt
tells-operands m u c p r (x ∷ xs) f l g = All-both (TellsEquation m u c r) (operand_equations (x, operands_at p)) (flat_map operand_equations (each_with (operands_at p) xs))
    (tells-operand m u c p r x f l g.0) (tells-operands m u c p r xs f l g.1)

tells-bit_type : (m : WidthMap) (u : ℕ → ℕ) (c : ℕ) (t : Option Ty) → IsWiderType 0 t → AllByRecursion (TellsEquation m u c Select) (constant_equations t (bits 1))
tells-bit_type m u c None g = tt
tells-bit_type m u c (Some t) g = (
  (λ h.
      let same : t.width - 0 ≡ 1 = tied-sides u (Number (t.width - 0)) (Number 1) 0 (not-zero (t.width - 0) (omega (arith, g))) refl h in
      omega (arith, same)),
  tt,
)

tells-bit : (m : WidthMap) (u : ℕ → ℕ) (c : ℕ) (x : Operand) → OperandShown m u 0 x → AllByRecursion (TellsEquation m u c Select) (operand_equations (x, bits 1))
tells-bit m u c (Value i) g = (
  (λ h. omega arith),
  (
    (λ h.
        let same : u (2 * i) ≡ 1 = tied-sides u (Node (2 * i)) (Number 1) 0 refl refl h in
        omega (arith, g, same)),
    tt,
  ),
)
tells-bit m u c (Constant k) g = ((λ h. omega arith), tells-bit_type m u c k.ty g)

tells-root_type : (m : WidthMap) (u : ℕ → ℕ) (c : ℕ) (t : Option Ty) → m.root ≡ u (2 * c) → IsWiderType 0 t → AllByRecursion (TellsEquation m u c Condition) (constant_equations t of_root)
tells-root_type m u c None f g = tt
tells-root_type m u c (Some t) f g = (
  (λ h.
      let same : t.width - 0 ≡ u (2 * c) = tied-sides u (Number (t.width - 0)) (Node (2 * c)) 0 (not-zero (t.width - 0) (omega (arith, g))) refl h in
      omega (arith, f, same)),
  tt,
)

tells-root : (m : WidthMap) (u : ℕ → ℕ) (c : ℕ) (x : Operand) → m.root ≡ u (2 * c) → 0 < u (2 * c) → OperandShown m u 0 x → AllByRecursion (TellsEquation m u c Condition) (operand_equations (x, of_root))
tells-root m u c (Value i) f l g = (
  (λ h. omega (arith, f, l)),
  (
    (λ h.
        let same : u (2 * i) ≡ u (2 * c) = tied-sides u (Node (2 * i)) (Node (2 * c)) 0 refl refl h in
        omega (arith, f, g, same)),
    tt,
  ),
)
tells-root m u c (Constant k) f l g = ((λ h. omega (arith, f, l)), tells-root_type m u c k.ty f g)

pub tells-line : (m : WidthMap) (u : ℕ → ℕ) (c : ℕ) (xs : List Operand) → m.root ≡ u (2 * c) → 0 < u (2 * c) → AllByRecursion (OperandShown m u 0) xs
    → AllByRecursion (TellsEquation m u c Condition) (flat_map operand_equations (each_with of_root xs))
tells-line m u c [] f l g = tt
tells-line m u c (x ∷ xs) f l g = All-both (TellsEquation m u c Condition) (operand_equations (x, of_root)) (flat_map operand_equations (each_with of_root xs))
    (tells-root m u c x f l g.0) (tells-line m u c xs f l g.1)

tells-first : (m : WidthMap) (u : ℕ → ℕ) (c p : ℕ) (r : Row) (x : Operand) → operand_width m p ≡ u (2 * p + 1) + operands_more r → 0 < u (2 * p + 1) → OperandShown m u (operands_more r) x
    → AllByRecursion (TellsEquation m u c r) (operand_equations (x, operands_at p) ++ [])
tells-first m u c p r x f l g = All-both (TellsEquation m u c r) (operand_equations (x, operands_at p)) [] (tells-operand m u c p r x f l g) tt

tells-none : (m : WidthMap) (u : ℕ → ℕ) (c p : ℕ) (r : Row) (xs : List Operand) → xs ≡ [] → AllByRecursion (TellsEquation m u c r) (flat_map operand_equations (each_with (operands_at p) xs))
tells-none m u c p r xs e = subst (λ (ys : List Operand). AllByRecursion (TellsEquation m u c r) (flat_map operand_equations (each_with (operands_at p) ys))) (sym e) tt

tells-row_operands : (m : WidthMap) (u : ℕ → ℕ) (c p : ℕ) (r : Row) (xs : List Operand) → operand_width m p ≡ shown_operands r (u (2 * p + 1)) → 0 < u (2 * p + 1) → RowShown m u r xs
    → AllByRecursion (TellsEquation m u c r) (flat_map operand_equations (row_operands p r xs))
tells-row_operands m u c p Input xs f l g = tells-none m u c p Input xs g
tells-row_operands m u c p Block xs f l g = tells-none m u c p Block xs g
tells-row_operands m u c p Phi xs f l g = tells-operands m u c p Phi xs (omega (arith, f)) l g
tells-row_operands m u c p Same xs f l g = tells-operands m u c p Same xs (omega (arith, f)) l g
tells-row_operands m u c p Bit xs f l g = tells-operands m u c p Bit xs (omega (arith, f)) l g
tells-row_operands m u c p Resized xs f l g = tells-operands m u c p Resized xs (omega (arith, f)) l g
tells-row_operands m u c p Pair xs f l g = tells-operands m u c p Pair xs (omega (arith, f)) l g
tells-row_operands m u c p Condition xs f l g = tells-operands m u c p Condition xs (omega (arith, f)) l g
tells-row_operands m u c p Select [] f l g = tt
tells-row_operands m u c p Select (x ∷ xs) f l g = All-both (TellsEquation m u c Select) (operand_equations (x, bits 1)) (flat_map operand_equations (each_with (operands_at p) xs))
    (tells-bit m u c x g.0) (tells-operands m u c p Select xs (omega (arith, f)) l g.1)
tells-row_operands m u c p number_row [] f l g = tt
tells-row_operands m u c p number_row (x ∷ xs) f l g = tells-first m u c p number_row x f l g
tells-row_operands m u c p Overflow [] f l g = tt
tells-row_operands m u c p Overflow (x ∷ xs) f l g = tells-first m u c p Overflow x f l g
tells-row_operands m u c p BadPart xs f l g = tt

pub tells-statement : (m : WidthMap) (u : ℕ → ℕ) (c p : ℕ) (s : PlainStatement) → result_width m p ≡ shown_result (row_of s) (u (2 * p)) → operand_width m p ≡ shown_operands (row_of s) (u (2 * p + 1))
    → 0 < u (2 * p) → 0 < u (2 * p + 1) → TypeShown m u p (row_of s) (written_type s) → RowShown m u (row_of s) (operands_in s)
    → AllByRecursion (TellsEquation m u c (row_of s)) (statement_equations p (Some s))
tells-statement m u c p s e f k l t g =
    All-both (TellsEquation m u c (row_of s)) (type_equations (written_type s) (result_of p)) (row_equations p (row_of s) ++ flat_map operand_equations (row_operands p (row_of s) (operands_in s)))
    (tells-type m u c p (row_of s) (written_type s) t)
    (All-both (TellsEquation m u c (row_of s)) (row_equations p (row_of s)) (flat_map operand_equations (row_operands p (row_of s) (operands_in s)))
    (tells-row m u c p (row_of s) e f k) (tells-row_operands m u c p (row_of s) (operands_in s) f l g))
