-- The equations of operands with their types.
use Rattle.std.proofs.Common.{◌≡◌, ℕ, List, [], ◌∷◌, ◌++◌, map, refl, ap}
use Rattle.std.specs.Prelude.{flat_map}
use Rattle.std.specs.List.{AllByRecursion}
use Rattle.souper_graph.specs.declared.ast.operands.Operand.{Operand}
use Rattle.souper_graph.specs.declared.ast.operands.Operand.TheVariants.{Value, Constant}
use Rattle.souper_graph.specs.WellFormed.{FitsOperand}
use Rattle.souper_graph.proofs.Judging.Closed.{All-both, All-first, All-second}
use Rattle.souper_widths.specs.declared.rows.Row.{Row}
use Rattle.souper_widths.specs.declared.rows.Row.TheVariants.{Select, Number, Overflow, BadPart}
use Rattle.souper_widths.specs.Maps.{WidthMap, operand_width}
use Rattle.souper_widths.specs.Equations.{Width, operands_at, bits, width_by, Holds, operand_equations}
use Rattle.souper_widths.specs.Table.{each_with, row_operands}
use Rattle.souper_widths.specs.Limits.{FitsOperandWidth}
use Rattle.souper_typed.specs.declared.form.Form.{Form}
use Rattle.souper_typed.specs.Written.{written_operand}
use Rattle.souper_typed.proofs.WrittenNumbers.{constant-holds, constant-held}
use Rattle.souper_typed.proofs.Lists.{all-map}
use Rattle.souper_typed.proofs.WrittenOperands.{operand-bits, written_operands}

-- an operand with its width
abbrev pub written_pair : Form → WidthMap → Operand × Width → Operand × Width
written_pair f m (x, n) = (written_operand f (width_by m n) x, n)

pub each-pair : (f : Form) (m : WidthMap) (n : Width) (xs : List Operand) → each_with n (map (written_operand f (width_by m n)) xs) ≡ map (written_pair f m) (each_with n xs)
each-pair f m n [] = refl
each-pair f m n (x ∷ xs) = ap (λ (z : List (Operand × Width)). (written_operand f (width_by m n) x, n) ∷ z) (each-pair f m n xs)

pub row-pairs : (f : Form) (m : WidthMap) (p : ℕ) (r : Row) (xs : List Operand) → row_operands p r (written_operands f r (operand_width m p) xs) ≡ map (written_pair f m) (row_operands p r xs)
row-pairs f m p Select (x ∷ xs) = ap (λ (z : List (Operand × Width)). (written_operand f 1 x, bits 1) ∷ z) (each-pair f m (operands_at p) xs)
row-pairs f m p Number (x ∷ xs) = refl
row-pairs f m p Overflow (x ∷ xs) = refl
row-pairs f m p BadPart xs = refl
row-pairs f m p r xs = each-pair f m (operands_at p) xs

pair-holds : (f : Form) (m : WidthMap) (z : Operand × Width) → AllByRecursion (Holds m) (operand_equations z) → AllByRecursion (Holds m) (operand_equations (written_pair f m z))
pair-holds f m (Value i, n) h = h
pair-holds f m (Constant c, n) h = (h.0, constant-holds m n (width_by m n) refl)

pub pairs-hold : (f : Form) (m : WidthMap) (zs : List (Operand × Width)) → AllByRecursion (Holds m) (flat_map operand_equations zs) → AllByRecursion (Holds m) (flat_map operand_equations (map (written_pair f m) zs))
pairs-hold f m [] h = tt
pairs-hold f m (z ∷ zs) h =
    All-both (Holds m) (operand_equations (written_pair f m z)) (flat_map operand_equations (map (written_pair f m) zs))
    (pair-holds f m z (All-first (Holds m) (operand_equations z) (flat_map operand_equations zs) h)) (pairs-hold f m zs (All-second (Holds m) (operand_equations z) (flat_map operand_equations zs) h))

abbrev pub FitsFirstPart : Operand × Width → Type 0
FitsFirstPart (x, n) = FitsOperand x

pair-held : (f : Form) (m o : WidthMap) (z : Operand × Width) → FitsFirstPart z → AllByRecursion (Holds m) (operand_equations z) → AllByRecursion (Holds o) (operand_equations (written_pair f m z)) → AllByRecursion (Holds o) (operand_equations z)
pair-held f m o (Value i, n) fits h k = k
pair-held f m o (Constant c, n) fits h k = (k.0, constant-held m o c.ty n fits.1 h.1 k.1)

pub pairs-held : (f : Form) (m o : WidthMap) (zs : List (Operand × Width)) → AllByRecursion FitsFirstPart zs → AllByRecursion (Holds m) (flat_map operand_equations zs)
    → AllByRecursion (Holds o) (flat_map operand_equations (map (written_pair f m) zs)) → AllByRecursion (Holds o) (flat_map operand_equations zs)
pairs-held f m o [] fits h k = tt
pairs-held f m o (z ∷ zs) fits h k =
    let y : Operand × Width = written_pair f m z in
    All-both (Holds o) (operand_equations z) (flat_map operand_equations zs)
    (pair-held f m o z fits.0 (All-first (Holds m) (operand_equations z) (flat_map operand_equations zs) h) (All-first (Holds o) (operand_equations y) (flat_map operand_equations (map (written_pair f m) zs)) k))
    (pairs-held f m o zs fits.1 (All-second (Holds m) (operand_equations z) (flat_map operand_equations zs) h) (All-second (Holds o) (operand_equations y) (flat_map operand_equations (map (written_pair f m) zs)) k))

pub each-first : (n : Width) (xs : List Operand) → AllByRecursion FitsOperand xs → AllByRecursion FitsFirstPart (each_with n xs)
each-first n xs h = all-map FitsOperand FitsFirstPart (λ x. (x, n)) (λ x k. k) xs h

pub row-first : (p : ℕ) (r : Row) (xs : List Operand) → AllByRecursion FitsOperand xs → AllByRecursion FitsFirstPart (row_operands p r xs)
row-first p Select (x ∷ xs) h = (h.0, each-first (operands_at p) xs h.1)
row-first p Number (x ∷ xs) h = (h.0, tt)
row-first p Overflow (x ∷ xs) h = (h.0, tt)
row-first p BadPart xs h = tt
row-first p r xs h = each-first (operands_at p) xs h

pair-bits : (f : Form) (m : WidthMap) (z : Operand × Width) → FitsOperandWidth m z → FitsOperandWidth m (written_pair f m z)
pair-bits f m (x, n) h = operand-bits f (width_by m n) x h

pub pairs-bits : (f : Form) (m : WidthMap) (zs : List (Operand × Width)) → AllByRecursion (FitsOperandWidth m) zs → AllByRecursion (FitsOperandWidth m) (map (written_pair f m) zs)
pairs-bits f m zs h = all-map (FitsOperandWidth m) (FitsOperandWidth m) (written_pair f m) (pair-bits f m) zs h
