-- Sums that wrap around: numbers that fit, and an `add` that has no sum.
use Rattle.std.proofs.Common.{◌≡◌, ℕ, ◌<◌, ◌≤◌, ◌^◌, ℤ, pos, negsuc, ◌≤ℤ◌, ◌<ℤ◌, Option, Some, None, sym, ◌∙◌, subst, arith}
use Rattle.std.specs.Prelude.{IfNone}
use Rattle.std.specs.Int.{IsNonNegative}
use Rattle.std.specs.Int.RustNames.{unsigned_abs}
use Rattle.std.proofs.lemmas.Int.{ints}
use Rattle.std.proofs.Math.Pow.{pow_mono}
use Rattle.souper_graph.specs.declared.ast.operands.Constant.{Constant}
use Rattle.souper_graph.specs.declared.ast.operands.Operand.TheVariants.{Constant as constant_variant}
use Rattle.souper_graph.specs.declared.ast.instructions.Instruction.TheVariants.{Add}
use Rattle.souper_graph.specs.Values.{PlainRhs, instruction}
use Rattle.examples_using.specs.Folding.{IsWrappedSum, IsSum}

pub power-fits : (w e : ℕ) → e ≡ w → w ≤ 126 → 2 ^ e ≤ 2 ^ 126
power-fits w e same narrow = pow_mono {i = e} {j = 126} (omega arith)

pub not-below : (r : ℤ) → IsNonNegative r → pos 0 ≤ℤ r
not-below (pos k) h = omega (arith, ints)
not-below (negsuc k) h = absurd h

pub below : (r : ℤ) (n m : ℕ) → IsNonNegative r → unsigned_abs r < n → n ≤ m → r <ℤ pos m
below (pos k) n m h l g = omega (arith, ints)
below (negsuc k) n m h l g = absurd h

pub no-sum : (r : Option Constant) (rhs : PlainRhs) (a b : Constant) → rhs ≡ instruction (Add (constant_variant a) (constant_variant b)) → IfNone r ((c : Constant) → IsWrappedSum a b c → ⊥) → IfNone r ((c : Constant) → IsSum rhs c → ⊥)
no-sum (Some x) rhs a b e h = tt
no-sum None rhs a b e h = λ c s.
    let both = sym e ∙ s.added in
    let first : s.a ≡ a = cc in
    let second : s.b ≡ b = cc in
    h c (subst (λ (x : Constant). IsWrappedSum x b c) first (subst (λ (x : Constant). IsWrappedSum s.a x c) second s.is_sum))
