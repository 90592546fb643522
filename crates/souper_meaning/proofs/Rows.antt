-- What the equations, the shape and the limits of a typed item say of a needed statement.
use Rattle.std.proofs.Common.{◌≡◌, ℕ, zero, suc, ◌%◌, ◌^◌, ◌≤◌, ◌<◌, List, [], ◌∷◌, ◌++◌, Option, Some, slice_get, subst, arith, ℤ, pos, negsuc}
use Rattle.std.specs.Prelude.{flat_map}
use Rattle.std.specs.List.{AllByRecursion}
use Rattle.std.proofs.Math.Pow.{pow_mono}
use Rattle.souper_graph.specs.declared.ast.operands.Operand.{Operand}
use Rattle.souper_graph.specs.declared.ast.operands.Operand.TheVariants.{Value, Constant}
use Rattle.souper_graph.specs.declared.ast.instructions.Instruction.{Instruction}
use Rattle.souper_graph.specs.declared.ast.instructions.Instruction.TheVariants.{Select, Zext, Sext, Trunc, Bswap, ExtractValue, Hole}
use Rattle.souper_graph.specs.declared.ast.flaws.FlawLocation.TheVariants.{Statement}
use Rattle.souper_graph.specs.Instructions.{operands_of}
use Rattle.souper_graph.specs.Values.{instruction, PlainStatement, Item}
use Rattle.souper_graph.specs.Uses.{NeededIn}
use Rattle.souper_graph.proofs.Judging.Closed.{All-first, All-second}
use Rattle.souper_widths.specs.declared.flaws.WidthReason.TheVariants.{ByteSwap, BitCount, SignBits}
use Rattle.souper_widths.specs.declared.rows.Row.{Row}
use Rattle.souper_widths.specs.Maps.{WidthMap, result_width, operand_width}
use Rattle.souper_widths.specs.Equations.{Width, result_of, operands_at, bits, width_by, Holds, type_equations, operand_equations}
use Rattle.souper_widths.specs.Table.{part_of_number, part_at, instruction_row, row_of, row_equations, each_with, row_operands, written_type, statement_operands, statement_equations}
use Rattle.souper_widths.specs.Shape.{HasPart, ShapedOptional, shape_reasons}
use Rattle.souper_widths.specs.Limits.{HasBytePairs, WithinStatement, KeepsStatement, limit_reasons}
use Rattle.souper_widths.specs.Typed.{Typed}
use Rattle.souper_words.specs.declared.outcome.Outcome.{Outcome}
use Rattle.souper_words.specs.Outcomes.{number_or}
use Rattle.souper_meaning.specs.Instructions.{meaning_of}
use Rattle.souper_meaning.specs.Evaluable.{IsValueBelow, AllowsWidths}
use Rattle.souper_meaning.specs.Sound.{IsHoleRhs}

abbrev pub HoldsRow : WidthMap → ℕ → Row → Type 0
HoldsRow m p r = AllByRecursion (Holds m) (row_equations p r)

abbrev pub HoldsPairs : WidthMap → List (Operand × Width) → Type 0
HoldsPairs m zs = AllByRecursion (Holds m) (flat_map operand_equations zs)

-- what a typed item says of its statement at position p
pub record IsTypedAt (m : WidthMap) (p : ℕ) (s : PlainStatement) : Type 0 where
  pub part : HasPart (row_of s)
  pub row : HoldsRow m p (row_of s)
  pub pairs : HoldsPairs m (statement_operands p s)
  pub bytes : WithinStatement (result_width m p) (operand_width m p) (Some s) ByteSwap
  pub bit_counts : WithinStatement (result_width m p) (operand_width m p) (Some s) BitCount
  pub sign_bits : WithinStatement (result_width m p) (operand_width m p) (Some s) SignBits

rest_part : (m : WidthMap) (p : ℕ) (s : PlainStatement) → AllByRecursion (Holds m) (statement_equations p (Some s)) → AllByRecursion (Holds m) (row_equations p (row_of s) ++ flat_map operand_equations (statement_operands p s))
rest_part m p s h = All-second (Holds m) (type_equations (written_type s) (result_of p)) (row_equations p (row_of s) ++ flat_map operand_equations (statement_operands p s)) h

statement_typed : (m : WidthMap) (p : ℕ) (ss : List PlainStatement) (s : PlainStatement) → AllByRecursion (ShapedOptional ss (Some s)) shape_reasons → AllByRecursion (Holds m) (statement_equations p (Some s))
    → AllByRecursion (KeepsStatement m p (Some s)) limit_reasons → IsTypedAt m p s
statement_typed m p ss s shape h limits = record {
  part = shape.1.1.1.1.1.0;
  row = All-first (Holds m) (row_equations p (row_of s)) (flat_map operand_equations (statement_operands p s)) (rest_part m p s h);
  pairs = All-second (Holds m) (row_equations p (row_of s)) (flat_map operand_equations (statement_operands p s)) (rest_part m p s h);
  bytes = limits.1.1.0;
  bit_counts = limits.1.1.1.1.0;
  sign_bits = limits.1.1.1.1.1.0;
}

pub typed_at : (a : Item) (m : WidthMap) (p : ℕ) (s : PlainStatement) → Typed a m → NeededIn a p → slice_get a.statements p ≡ Some s → IsTypedAt m p s
typed_at a m p s t n e =
    statement_typed m p a.statements s
    (subst (λ (o : Option PlainStatement). AllByRecursion (ShapedOptional a.statements o) shape_reasons) e (t.shape (Statement p) n))
    (subst (λ (o : Option PlainStatement). AllByRecursion (Holds m) (statement_equations p o)) e (t.has.holds (Statement p) n))
    (subst (λ (o : Option PlainStatement). AllByRecursion (KeepsStatement m p o) limit_reasons) e (t.limits (Statement p) n))

-- the number of each value among operands has the bits of its statement's result
abbrev pub FitsValue : WidthMap → (ℕ → Outcome) → Operand → Type 0
FitsValue m at (Value i) = number_or 0 (at i) < 2 ^ result_width m i
FitsValue m at (Constant c) = Unit {0}

-- one operand of a width

least : (m : WidthMap) (x : Operand) (n : Width) → AllByRecursion (Holds m) (operand_equations (x, n)) → 1 ≤ width_by m n
least m (Value i) n h = h.0
least m (Constant c) n h = h.0

first_equations : (m : WidthMap) (x : Operand) (n : Width) (zs : List (Operand × Width)) → HoldsPairs m ((x, n) ∷ zs) → AllByRecursion (Holds m) (operand_equations (x, n))
first_equations m x n zs h = All-first (Holds m) (operand_equations (x, n)) (flat_map operand_equations zs) h

later_pairs : (m : WidthMap) (x : Operand) (n : Width) (zs : List (Operand × Width)) → HoldsPairs m ((x, n) ∷ zs) → HoldsPairs m zs
later_pairs m x n zs h = All-second (Holds m) (operand_equations (x, n)) (flat_map operand_equations zs) h

value_below : (m : WidthMap) (at : ℕ → Outcome) (n : Width) (v : ℕ) (x : Operand) → width_by m n ≤ v → AllByRecursion (Holds m) (operand_equations (x, n)) → FitsValue m at x → IsValueBelow at (2 ^ v) x
value_below m at n v (Value i) l h f =
    let e : result_width m i ≡ width_by m n = h.1.0 in
    let q : 2 ^ result_width m i ≤ 2 ^ v = pow_mono (omega (arith, e, l)) in
    omega (arith, f, q)
value_below m at n v (Constant c) l h f = tt

-- operands of one width

pub values_below : (m : WidthMap) (at : ℕ → Outcome) (n : Width) (v : ℕ) (xs : List Operand) → width_by m n ≤ v → HoldsPairs m (each_with n xs) → AllByRecursion (FitsValue m at) xs → AllByRecursion (IsValueBelow at (2 ^ v)) xs
values_below m at n v [] l h f = tt
values_below m at n v (x ∷ xs) l h f =
    (value_below m at n v x l (first_equations m x n (each_with n xs) h) f.0, values_below m at n v xs l (later_pairs m x n (each_with n xs) h) f.1)

abbrev NotEmpty : List Operand → Type 0
NotEmpty [] = ⊥
NotEmpty (x ∷ xs) = Unit {0}

pub each_least : (m : WidthMap) (n : Width) (x : Operand) (xs : List Operand) → HoldsPairs m (each_with n (x ∷ xs)) → 1 ≤ width_by m n
each_least m n x xs h = least m x n (first_equations m x n (each_with n xs) h)

some_least : (m : WidthMap) (n : Width) (xs : List Operand) → NotEmpty xs → HoldsPairs m (each_with n xs) → 1 ≤ width_by m n
some_least m n [] e h = absurd e
some_least m n (x ∷ xs) e h = each_least m n x xs h

-- both operands of a condition have a width
pub condition_least : (m : WidthMap) (p : ℕ) (x y : Operand) → HoldsPairs m (each_with (operands_at p) (x ∷ y ∷ [])) → 1 ≤ operand_width m p
condition_least m p x y h = each_least m (operands_at p) x (y ∷ []) h

-- operands of extractvalue, by its index

number_least : (m : WidthMap) (p : ℕ) (a b : Operand) (z : ℤ) → HasPart (part_of_number z) → HoldsPairs m (row_operands p (part_of_number z) (a ∷ b ∷ [])) → 1 ≤ operand_width m p
number_least m p a b (pos zero) q h = least m a (operands_at p) (first_equations m a (operands_at p) [] h)
number_least m p a b (pos (suc zero)) q h = least m a (operands_at p) (first_equations m a (operands_at p) [] h)
number_least m p a b (pos (suc (suc n))) q h = absurd q
number_least m p a b (negsuc n) q h = absurd q

part_least : (m : WidthMap) (p : ℕ) (a b : Operand) → HasPart (part_at b) → HoldsPairs m (row_operands p (part_at b) (a ∷ b ∷ [])) → 1 ≤ operand_width m p
part_least m p a (Value j) q h = absurd q
part_least m p a (Constant c) q h = number_least m p a (Constant c) c.value q h

number_value : (m : WidthMap) (p : ℕ) (at : ℕ → Outcome) (a b : Operand) (z : ℤ) → HasPart (part_of_number z) → HoldsPairs m (row_operands p (part_of_number z) (a ∷ b ∷ [])) → FitsValue m at a
    → IsValueBelow at (2 ^ operand_width m p) a
number_value m p at a b (pos zero) q h f = value_below m at (operands_at p) (operand_width m p) a (omega arith) (first_equations m a (operands_at p) [] h) f
number_value m p at a b (pos (suc zero)) q h f = value_below m at (operands_at p) (operand_width m p) a (omega arith) (first_equations m a (operands_at p) [] h) f
number_value m p at a b (pos (suc (suc n))) q h f = absurd q
number_value m p at a b (negsuc n) q h f = absurd q

part_values : (m : WidthMap) (p : ℕ) (at : ℕ → Outcome) (a b : Operand) → HasPart (part_at b) → HoldsPairs m (row_operands p (part_at b) (a ∷ b ∷ [])) → AllByRecursion (FitsValue m at) (a ∷ b ∷ [])
    → AllByRecursion (IsValueBelow at (2 ^ operand_width m p)) (a ∷ b ∷ [])
part_values m p at a (Value j) q h f = absurd q
part_values m p at a (Constant c) q h f = (number_value m p at a (Constant c) c.value q h f.0, (tt, tt))

number_result : (m : WidthMap) (p : ℕ) (z : ℤ) → HasPart (part_of_number z) → HoldsRow m p (part_of_number z) → 1 ≤ result_width m p
number_result m p (pos zero) q h = h.1.0
number_result m p (pos (suc zero)) q h = omega (arith, h.0)
number_result m p (pos (suc (suc n))) q h = absurd q
number_result m p (negsuc n) q h = absurd q

part_result : (m : WidthMap) (p : ℕ) (b : Operand) → HasPart (part_at b) → HoldsRow m p (part_at b) → 1 ≤ result_width m p
part_result m p (Value j) q h = absurd q
part_result m p (Constant c) q h = number_result m p c.value q h

-- an instruction's operands have a width
pub operands_least : (m : WidthMap) (p : ℕ) (i : Instruction) → ¬ IsHoleRhs (instruction i) → HasPart (instruction_row i) → HoldsPairs m (row_operands p (instruction_row i) (operands_of i)) → 1 ≤ operand_width m p
operands_least m p Hole o q h = absurd (o tt)
operands_least m p (Select c a b) o q h = each_least m (operands_at p) a (b ∷ []) (later_pairs m c (bits 1) (each_with (operands_at p) (a ∷ b ∷ [])) h)
operands_least m p (ExtractValue a b) o q h = part_least m p a b q h
operands_least m p i o q h = some_least m (operands_at p) (operands_of i) tt h

-- its result too
pub result_least : (m : WidthMap) (p : ℕ) (i : Instruction) → HasPart (instruction_row i) → HoldsRow m p (instruction_row i) → 1 ≤ operand_width m p → 1 ≤ result_width m p
result_least m p (ExtractValue a b) q h l = part_result m p b q h
result_least m p i q h l = omega (arith, h.0, l)

-- its word may have its widths
pub word_allows : (m : WidthMap) (p : ℕ) (i : Instruction) → HoldsRow m p (instruction_row i) → HasBytePairs (result_width m p) i → AllowsWidths (meaning_of i) (result_width m p) (operand_width m p)
word_allows m p Hole h b = tt
word_allows m p (Zext a) h b = tt
word_allows m p (Sext a) h b = tt
word_allows m p (Trunc a) h b = tt
word_allows m p (ExtractValue a c) h b = tt
word_allows m p (Bswap a) h b = (h.0, subst (λ (k : ℕ). k % 16 ≡ 0) h.0 b)
word_allows m p i h b = h.0

-- the numbers of its values have the bits of its operands
pub instruction_values : (m : WidthMap) (p : ℕ) (at : ℕ → Outcome) (i : Instruction) → HasPart (instruction_row i) → 1 ≤ operand_width m p → HoldsPairs m (row_operands p (instruction_row i) (operands_of i)) → AllByRecursion (FitsValue m at) (operands_of i)
    → AllByRecursion (IsValueBelow at (2 ^ operand_width m p)) (operands_of i)
instruction_values m p at (Select c a b) q l h f = (
  value_below m at (bits 1) (operand_width m p) c l (first_equations m c (bits 1) (each_with (operands_at p) (a ∷ b ∷ [])) h) f.0,
  values_below m at (operands_at p) (operand_width m p) (a ∷ b ∷ []) (omega arith) (later_pairs m c (bits 1) (each_with (operands_at p) (a ∷ b ∷ [])) h) f.1,
)
instruction_values m p at (ExtractValue a b) q l h f = part_values m p at a b q h f
instruction_values m p at i q l h f = values_below m at (operands_at p) (operand_width m p) (operands_of i) (omega arith) h f
