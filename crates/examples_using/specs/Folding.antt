-- Definitions. An `add` of two constants whose uses become its sum.
use Rattle.std.specs.Prelude.{◌≡◌, ◌⊎◌, ◌≤◌, ◌^◌, ℕ, zero, suc, ℤ, pos, ◌+ℤ◌, Some, slice_get}
use Rattle.std.specs.Int.{int_rem_euclid}
use Rattle.souper_graph.specs.declared.ast.operands.Constant.{Constant}
use Rattle.souper_graph.specs.declared.ast.operands.Operand.TheVariants.{Constant as constant_variant}
use Rattle.souper_graph.specs.declared.ast.instructions.Instruction.TheVariants.{Add}
use Rattle.souper_graph.specs.Values.{PlainRhs, instruction, PlainAssignment, assigned, Item}
use Rattle.souper_graph.specs.Replacing.{with_uses_replaced}

-- the number modulo 2 ^ width, which is at least 0
abbrev pub wrapped : ℕ → ℤ → ℤ
wrapped width z = int_rem_euclid z (pos (2 ^ width))

-- c is the sum of a and b, which have one type of at most 126 bits, and it wraps around at that width
pub record IsWrappedSum (a b c : Constant) : Type 0 where
  pub width : ℕ
  pub narrow : width ≤ 126
  pub first : a.ty ≡ Some (record { width = width })
  pub second : b.ty ≡ Some (record { width = width })
  pub typed : c.ty ≡ Some (record { width = width })
  pub sum : c.value ≡ wrapped width (wrapped width a.value +ℤ wrapped width b.value)

-- the right side is an `add` of two constants, and c is their sum
pub record IsSum (rhs : PlainRhs) (c : Constant) : Type 0 where
  pub a : Constant
  pub b : Constant
  pub added : rhs ≡ instruction (Add (constant_variant a) (constant_variant b))
  pub is_sum : IsWrappedSum a b c

-- the value is an `add` of two constants whose sum is c
pub record IsSumAt (value : ℕ) (a : Item) (c : Constant) : Type 0 where
  pub assignment : PlainAssignment
  pub there : slice_get a.statements value ≡ Some (assigned assignment)
  pub is_sum : IsSum assignment.value c

-- in b the uses of one value of a, which is a sum, are that constant, and nothing else differs
pub record IsFolded (value : ℕ) (a b : Item) : Type 0 where
  pub constant : Constant
  pub sum : IsSumAt value a constant
  pub replaced : b ≡ with_uses_replaced value (constant_variant constant) a

-- the value is no sum, and b is a
pub record IsKept (value : ℕ) (a b : Item) : Type 0 where
  pub no_sum : (c : Constant) → IsSumAt value a c → ⊥
  pub same : b ≡ a

-- b is a after such a step for each of the first n values, in order
abbrev pub FoldsUpTo : ℕ → Item → Item → Type 0
FoldsUpTo zero a b = b ≡ a
FoldsUpTo (suc n) a b = (mid : Item) × FoldsUpTo n a mid × (IsFolded n mid b ⊎ IsKept n mid b)
