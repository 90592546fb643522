-- The widths of the worked examples.
use Rattle.std.proofs.Common.{◌≡◌, ℕ, zero, suc, ◌<◌, refl, rules, arith}
use Rattle.std.specs.List.{AllByRecursion}
use Rattle.souper_graph.specs.declared.ast.flaws.FlawLocation.TheVariants.{Statement, Infer}
use Rattle.souper_graph.specs.Uses.{walked, used, NeededIn}
use Rattle.souper_widths.specs.Maps.{WidthMap, result_width, operand_width}
use Rattle.souper_widths.specs.Places.{IsPlace, SolvesAt}
use Rattle.souper_widths.specs.Shape.{ShapedAt, shape_reasons, HasShape}
use Rattle.souper_widths.specs.Limits.{KeepsAt, limit_reasons, KeepsLimits}
use Rattle.souper_widths.specs.Typed.{HasWidths, Typed}
use Rattle.souper_widths.specs.Examples.{doubled, doubled_widths, typed_later, typed_later_widths, overflow, overflow_widths, large_constant, large_constant_widths}
use Rattle.souper_widths.proofs.Locations.{each_location, same_maps}

doubled-shaped : (p : ℕ) → AllByRecursion (ShapedAt doubled (Statement p)) shape_reasons
doubled-shaped zero = search rules
doubled-shaped (suc zero) = search rules
doubled-shaped (suc (suc zero)) = search rules
doubled-shaped (suc (suc (suc p))) = search rules

pub doubled-shape : HasShape doubled
doubled-shape = each_location (λ l. IsPlace doubled l → AllByRecursion (ShapedAt doubled l) shape_reasons)
    (λ p h. doubled-shaped p) (λ h. search rules) (λ h. search rules) (λ h. search rules)

pub doubled-needed-1 : NeededIn doubled 1
doubled-needed-1 = walked (search rules)

pub doubled-needed-2 : NeededIn doubled 2
doubled-needed-2 = walked (search rules)

pub doubled-needed-0 : NeededIn doubled 0
doubled-needed-0 = used doubled-needed-1 (search rules)

doubled-solved : (p : ℕ) → SolvesAt doubled doubled_widths (Statement p)
doubled-solved zero = search rules
doubled-solved (suc zero) = search rules
doubled-solved (suc (suc zero)) = search rules
doubled-solved (suc (suc (suc p))) = search rules

pub doubled-has : HasWidths doubled doubled_widths
doubled-has = record {
  results = refl;
  operands = refl;
  holds = each_location (λ l. IsPlace doubled l → SolvesAt doubled doubled_widths l) (λ p h. doubled-solved p) (λ h. search rules) (λ h. search rules) (λ h. search rules);
  unneeded = unneeded;
}
  where
    unneeded : (p : ℕ) → ¬ NeededIn doubled p → (result_width doubled_widths p ≡ 0) × (operand_width doubled_widths p ≡ 0)
    unneeded zero h = absurd (h doubled-needed-0)
    unneeded (suc zero) h = absurd (h doubled-needed-1)
    unneeded (suc (suc zero)) h = absurd (h doubled-needed-2)
    unneeded (suc (suc (suc p))) h = (refl, refl)

pub doubled-only : (n : WidthMap) → HasWidths doubled n → n ≡ doubled_widths
doubled-only n has = same_maps n doubled_widths 3 has.results refl has.operands refl same root
  where
    at-0 : SolvesAt doubled n (Statement 0)
    at-0 = has.holds (Statement 0) doubled-needed-0

    at-1 : SolvesAt doubled n (Statement 1)
    at-1 = has.holds (Statement 1) doubled-needed-1

    at-2 : SolvesAt doubled n (Statement 2)
    at-2 = has.holds (Statement 2) doubled-needed-2

    line : SolvesAt doubled n Infer
    line = has.holds Infer (λ e. absurd (cc))

    same : (p : ℕ) → p < 3 → (result_width n p ≡ result_width doubled_widths p) × (operand_width n p ≡ operand_width doubled_widths p)
    same zero h = (omega (arith, at-0, at-1, at-2), omega (arith, at-0, at-1, at-2))
    same (suc zero) h = (omega (arith, at-0, at-1, at-2), omega (arith, at-0, at-1, at-2))
    same (suc (suc zero)) h = (omega (arith, at-0, at-1, at-2), omega (arith, at-0, at-1, at-2))
    same (suc (suc (suc p))) h = absurd (omega arith)

    root : n.root ≡ 8
    root = omega (arith, line, at-0, at-1, at-2)

doubled-limited : (p : ℕ) → AllByRecursion (KeepsAt doubled doubled_widths (Statement p)) limit_reasons
doubled-limited zero = search rules
doubled-limited (suc zero) = search rules
doubled-limited (suc (suc zero)) = search rules
doubled-limited (suc (suc (suc p))) = search rules

doubled-limits : KeepsLimits doubled doubled_widths
doubled-limits = each_location (λ l. IsPlace doubled l → AllByRecursion (KeepsAt doubled doubled_widths l) limit_reasons)
    (λ p h. doubled-limited p) (λ h. search rules) (λ h. search rules) (λ h. search rules)

pub doubled-typed : Typed doubled doubled_widths
doubled-typed = record { shape = doubled-shape; has = doubled-has; only = doubled-only; limits = doubled-limits }

typed_later-shaped : (p : ℕ) → AllByRecursion (ShapedAt typed_later (Statement p)) shape_reasons
typed_later-shaped zero = search rules
typed_later-shaped (suc zero) = search rules
typed_later-shaped (suc (suc p)) = search rules

pub typed_later-shape : HasShape typed_later
typed_later-shape = each_location (λ l. IsPlace typed_later l → AllByRecursion (ShapedAt typed_later l) shape_reasons)
    (λ p h. typed_later-shaped p) (λ h. search rules) (λ h. search rules) (λ h. search rules)

pub typed_later-needed-1 : NeededIn typed_later 1
typed_later-needed-1 = walked (search rules)

pub typed_later-needed-0 : NeededIn typed_later 0
typed_later-needed-0 = used typed_later-needed-1 (search rules)

typed_later-solved : (p : ℕ) → SolvesAt typed_later typed_later_widths (Statement p)
typed_later-solved zero = search rules
typed_later-solved (suc zero) = search rules
typed_later-solved (suc (suc p)) = search rules

pub typed_later-has : HasWidths typed_later typed_later_widths
typed_later-has = record {
  results = refl;
  operands = refl;
  holds = each_location (λ l. IsPlace typed_later l → SolvesAt typed_later typed_later_widths l) (λ p h. typed_later-solved p) (λ h. search rules) (λ h. search rules) (λ h. search rules);
  unneeded = unneeded;
}
  where
    unneeded : (p : ℕ) → ¬ NeededIn typed_later p → (result_width typed_later_widths p ≡ 0) × (operand_width typed_later_widths p ≡ 0)
    unneeded zero h = absurd (h typed_later-needed-0)
    unneeded (suc zero) h = absurd (h typed_later-needed-1)
    unneeded (suc (suc p)) h = (refl, refl)

pub typed_later-only : (n : WidthMap) → HasWidths typed_later n → n ≡ typed_later_widths
typed_later-only n has = same_maps n typed_later_widths 2 has.results refl has.operands refl same root
  where
    at-0 : SolvesAt typed_later n (Statement 0)
    at-0 = has.holds (Statement 0) typed_later-needed-0

    at-1 : SolvesAt typed_later n (Statement 1)
    at-1 = has.holds (Statement 1) typed_later-needed-1

    line : SolvesAt typed_later n Infer
    line = has.holds Infer (λ e. absurd (cc))

    same : (p : ℕ) → p < 2 → (result_width n p ≡ result_width typed_later_widths p) × (operand_width n p ≡ operand_width typed_later_widths p)
    same zero h = (omega (arith, at-0, at-1), omega (arith, at-0, at-1))
    same (suc zero) h = (omega (arith, at-0, at-1), omega (arith, at-0, at-1))
    same (suc (suc p)) h = absurd (omega arith)

    root : n.root ≡ 8
    root = omega (arith, line, at-0, at-1)

typed_later-limited : (p : ℕ) → AllByRecursion (KeepsAt typed_later typed_later_widths (Statement p)) limit_reasons
typed_later-limited zero = search rules
typed_later-limited (suc zero) = search rules
typed_later-limited (suc (suc p)) = search rules

typed_later-limits : KeepsLimits typed_later typed_later_widths
typed_later-limits = each_location (λ l. IsPlace typed_later l → AllByRecursion (KeepsAt typed_later typed_later_widths l) limit_reasons)
    (λ p h. typed_later-limited p) (λ h. search rules) (λ h. search rules) (λ h. search rules)

pub typed_later-typed : Typed typed_later typed_later_widths
typed_later-typed = record { shape = typed_later-shape; has = typed_later-has; only = typed_later-only; limits = typed_later-limits }

overflow-shaped : (p : ℕ) → AllByRecursion (ShapedAt overflow (Statement p)) shape_reasons
overflow-shaped zero = search rules
overflow-shaped (suc zero) = search rules
overflow-shaped (suc (suc zero)) = search rules
overflow-shaped (suc (suc (suc p))) = search rules

pub overflow-shape : HasShape overflow
overflow-shape = each_location (λ l. IsPlace overflow l → AllByRecursion (ShapedAt overflow l) shape_reasons)
    (λ p h. overflow-shaped p) (λ h. search rules) (λ h. search rules) (λ h. search rules)

pub overflow-needed-2 : NeededIn overflow 2
overflow-needed-2 = walked (search rules)

pub overflow-needed-1 : NeededIn overflow 1
overflow-needed-1 = used overflow-needed-2 (search rules)

pub overflow-needed-0 : NeededIn overflow 0
overflow-needed-0 = used overflow-needed-1 (search rules)

overflow-solved : (p : ℕ) → SolvesAt overflow overflow_widths (Statement p)
overflow-solved zero = search rules
overflow-solved (suc zero) = search rules
overflow-solved (suc (suc zero)) = search rules
overflow-solved (suc (suc (suc p))) = search rules

pub overflow-has : HasWidths overflow overflow_widths
overflow-has = record {
  results = refl;
  operands = refl;
  holds = each_location (λ l. IsPlace overflow l → SolvesAt overflow overflow_widths l) (λ p h. overflow-solved p) (λ h. search rules) (λ h. search rules) (λ h. search rules);
  unneeded = unneeded;
}
  where
    unneeded : (p : ℕ) → ¬ NeededIn overflow p → (result_width overflow_widths p ≡ 0) × (operand_width overflow_widths p ≡ 0)
    unneeded zero h = absurd (h overflow-needed-0)
    unneeded (suc zero) h = absurd (h overflow-needed-1)
    unneeded (suc (suc zero)) h = absurd (h overflow-needed-2)
    unneeded (suc (suc (suc p))) h = (refl, refl)

pub overflow-only : (n : WidthMap) → HasWidths overflow n → n ≡ overflow_widths
overflow-only n has = same_maps n overflow_widths 3 has.results refl has.operands refl same root
  where
    at-0 : SolvesAt overflow n (Statement 0)
    at-0 = has.holds (Statement 0) overflow-needed-0

    at-1 : SolvesAt overflow n (Statement 1)
    at-1 = has.holds (Statement 1) overflow-needed-1

    at-2 : SolvesAt overflow n (Statement 2)
    at-2 = has.holds (Statement 2) overflow-needed-2

    line : SolvesAt overflow n Infer
    line = has.holds Infer (λ e. absurd (cc))

    same : (p : ℕ) → p < 3 → (result_width n p ≡ result_width overflow_widths p) × (operand_width n p ≡ operand_width overflow_widths p)
    same zero h = (omega (arith, at-0, at-1, at-2), omega (arith, at-0, at-1, at-2))
    same (suc zero) h = (omega (arith, at-0, at-1, at-2), omega (arith, at-0, at-1, at-2))
    same (suc (suc zero)) h = (omega (arith, at-0, at-1, at-2), omega (arith, at-0, at-1, at-2))
    same (suc (suc (suc p))) h = absurd (omega arith)

    root : n.root ≡ 1
    root = omega (arith, line, at-0, at-1, at-2)

overflow-limited : (p : ℕ) → AllByRecursion (KeepsAt overflow overflow_widths (Statement p)) limit_reasons
overflow-limited zero = search rules
overflow-limited (suc zero) = search rules
overflow-limited (suc (suc zero)) = search rules
overflow-limited (suc (suc (suc p))) = search rules

overflow-limits : KeepsLimits overflow overflow_widths
overflow-limits = each_location (λ l. IsPlace overflow l → AllByRecursion (KeepsAt overflow overflow_widths l) limit_reasons)
    (λ p h. overflow-limited p) (λ h. search rules) (λ h. search rules) (λ h. search rules)

pub overflow-typed : Typed overflow overflow_widths
overflow-typed = record { shape = overflow-shape; has = overflow-has; only = overflow-only; limits = overflow-limits }

large_constant-shaped : (p : ℕ) → AllByRecursion (ShapedAt large_constant (Statement p)) shape_reasons
large_constant-shaped zero = search rules
large_constant-shaped (suc zero) = search rules
large_constant-shaped (suc (suc p)) = search rules

pub large_constant-shape : HasShape large_constant
large_constant-shape = each_location (λ l. IsPlace large_constant l → AllByRecursion (ShapedAt large_constant l) shape_reasons)
    (λ p h. large_constant-shaped p) (λ h. search rules) (λ h. search rules) (λ h. search rules)

pub large_constant-needed-1 : NeededIn large_constant 1
large_constant-needed-1 = walked (search rules)

pub large_constant-needed-0 : NeededIn large_constant 0
large_constant-needed-0 = used large_constant-needed-1 (search rules)

large_constant-solved : (p : ℕ) → SolvesAt large_constant large_constant_widths (Statement p)
large_constant-solved zero = search rules
large_constant-solved (suc zero) = search rules
large_constant-solved (suc (suc p)) = search rules

pub large_constant-has : HasWidths large_constant large_constant_widths
large_constant-has = record {
  results = refl;
  operands = refl;
  holds = each_location (λ l. IsPlace large_constant l → SolvesAt large_constant large_constant_widths l) (λ p h. large_constant-solved p) (λ h. search rules) (λ h. search rules) (λ h. search rules);
  unneeded = unneeded;
}
  where
    unneeded : (p : ℕ) → ¬ NeededIn large_constant p → (result_width large_constant_widths p ≡ 0) × (operand_width large_constant_widths p ≡ 0)
    unneeded zero h = absurd (h large_constant-needed-0)
    unneeded (suc zero) h = absurd (h large_constant-needed-1)
    unneeded (suc (suc p)) h = (refl, refl)

pub large_constant-only : (n : WidthMap) → HasWidths large_constant n → n ≡ large_constant_widths
large_constant-only n has = same_maps n large_constant_widths 2 has.results refl has.operands refl same root
  where
    at-0 : SolvesAt large_constant n (Statement 0)
    at-0 = has.holds (Statement 0) large_constant-needed-0

    at-1 : SolvesAt large_constant n (Statement 1)
    at-1 = has.holds (Statement 1) large_constant-needed-1

    line : SolvesAt large_constant n Infer
    line = has.holds Infer (λ e. absurd (cc))

    same : (p : ℕ) → p < 2 → (result_width n p ≡ result_width large_constant_widths p) × (operand_width n p ≡ operand_width large_constant_widths p)
    same zero h = (omega (arith, at-0, at-1), omega (arith, at-0, at-1))
    same (suc zero) h = (omega (arith, at-0, at-1), omega (arith, at-0, at-1))
    same (suc (suc p)) h = absurd (omega arith)

    root : n.root ≡ 8
    root = omega (arith, line, at-0, at-1)
