-- What nodes of operands are, and ties of two sides, for the equations of a place.
use Rattle.std.proofs.Common.{◌≡◌, ℕ, ◌+◌, ◌-◌, ◌*◌, ◌<◌, Bool, true, false, cond, inl, inr, List, [], ◌∷◌, Some, None, sym, ap, ◌∙◌, arith}
use Rattle.std.specs.Prelude.{◌||◌, Option}
use Rattle.std.specs.List.{AllByRecursion}
use Rattle.std.proofs.lemmas.Bool.Decides.{eqb_tells}
use Rattle.souper_graph.specs.declared.ast.operands.«Type».{«Type» as Ty}
use Rattle.souper_graph.specs.declared.ast.operands.Operand.{Operand}
use Rattle.souper_graph.specs.declared.ast.operands.Operand.TheVariants.{Value, Constant}
use Rattle.souper_widths.specs.declared.rows.Row.{Row}
use Rattle.souper_widths.specs.declared.rows.Row.TheVariants.{Number as number_row, Overflow, BadPart}
use Rattle.souper_widths.specs.declared.ties.Side.{Side}
use Rattle.souper_widths.specs.declared.ties.Side.TheVariants.{Number}
use Rattle.souper_widths.specs.declared.ties.Tie.{Tie}
use Rattle.souper_widths.specs.Maps.{WidthMap, result_width}
use Rattle.souper_widths.specs.Forest.{side_width}
use Rattle.souper_widths.specs.Ties.{is_zero, tie_between, IsTied, AreTied}

tied-unless : (b : Bool) (u : ℕ → ℕ) (t : Tie) → IsTied u t → AreTied u (cond b [] (t ∷ []))
tied-unless true u t h = tt
tied-unless false u t h = (h, tt)

-- sides of one width are tied
pub tied-between : (u : ℕ → ℕ) (l r : Side) (k a b : ℕ) → side_width u l ≡ a - k → side_width u r ≡ b - k → a ≡ b → AreTied u (tie_between l r k)
tied-between u l r k a b e f g = tied-unless (is_zero l || is_zero r) u (record { left = l; right = r; more = k }) (e ∙ ap (λ (z : ℕ). z - k) g ∙ sym f)

-- the node of an operand, k bits below its width
abbrev pub OperandNode : WidthMap → (ℕ → ℕ) → ℕ → Operand → Type 0
OperandNode m u k (Value i) = u (2 * i) ≡ result_width m i - k
OperandNode m u k (Constant c) = Unit {0}

-- a type wider than k
abbrev pub IsWiderType : ℕ → Option Ty → Type 0
IsWiderType k None = Unit {0}
IsWiderType k (Some t) = k < t.width

-- an operand is k bits wider than its node, and a constant's type is wider than k
abbrev pub OperandShown : WidthMap → (ℕ → ℕ) → ℕ → Operand → Type 0
OperandShown m u k (Value i) = result_width m i ≡ u (2 * i) + k
OperandShown m u k (Constant c) = IsWiderType k c.ty

pub not-zero : (n : ℕ) → 0 < n → is_zero (Number n) ≡ false
not-zero n h = elim (eqb_tells n 0) [ inl t ↦ absurd (omega (arith, t.1, h)) | inr t ↦ t.0 ]

untied : (b : Bool) (u : ℕ → ℕ) (t : Tie) → b ≡ false → AreTied u (cond b [] (t ∷ [])) → IsTied u t
untied true u t e h = absurd (cc)
untied false u t e h = h.0

-- the sides of a tie have one width
pub tied-sides : (u : ℕ → ℕ) (l r : Side) (k : ℕ) → is_zero l ≡ false → is_zero r ≡ false → AreTied u (tie_between l r k) → side_width u l ≡ side_width u r
tied-sides u l r k a b h = untied (is_zero l || is_zero r) u (record { left = l; right = r; more = k }) (ap (λ (x : Bool). x || is_zero r) a ∙ b) h

-- the operands, each as wide as n
abbrev pub AreNodes : WidthMap → (ℕ → ℕ) → ℕ → List Operand → Type 0
AreNodes m u k xs = AllByRecursion (OperandNode m u k) xs

-- the operands of a row, by its nodes: those of extractvalue take a pair
abbrev pub RowNodes : WidthMap → (ℕ → ℕ) → Row → List Operand → Type 0
RowNodes m u BadPart xs = Unit {0}
RowNodes m u number_row [] = Unit {0}
RowNodes m u number_row (x ∷ xs) = OperandNode m u 1 x
RowNodes m u Overflow [] = Unit {0}
RowNodes m u Overflow (x ∷ xs) = OperandNode m u 1 x
RowNodes m u r xs = AreNodes m u 0 xs
