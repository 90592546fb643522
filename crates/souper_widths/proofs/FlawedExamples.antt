-- The first flaws of the worked examples.
use Rattle.std.proofs.Common.{◌≡◌, ℕ, zero, suc, ◌<◌, [], ◌∷◌, refl, inl, rules, arith}
use Rattle.std.specs.List.{AllByRecursion}
use Rattle.souper_graph.specs.declared.ast.flaws.FlawLocation.{FlawLocation}
use Rattle.souper_graph.specs.declared.ast.flaws.FlawLocation.TheVariants.{Statement}
use Rattle.souper_graph.specs.Uses.{walked, used, NeededIn}
use Rattle.souper_graph.specs.Flaws.{IsBefore}
use Rattle.souper_widths.specs.declared.flaws.WidthReason.TheVariants.{BadIndex, Conflict, Undetermined, ConstantTooWide}
use Rattle.souper_widths.specs.Maps.{WidthMap, result_width, operand_width, AgreeAt}
use Rattle.souper_widths.specs.Places.{IsPlace, SolvesAt}
use Rattle.souper_widths.specs.Shape.{ShapedAt, shape_reasons, HasShape}
use Rattle.souper_widths.specs.Limits.{KeepsAt, limit_reasons}
use Rattle.souper_widths.specs.Typed.{HasWidths}
use Rattle.souper_widths.specs.Flaws.{IsFlawAt}
use Rattle.souper_widths.specs.Examples.{third_part, narrow_pair, unknown_operand, large_constant, large_constant_widths}
use Rattle.souper_widths.proofs.Locations.{each_location}
use Rattle.souper_widths.proofs.Examples.{large_constant-shape, large_constant-has, large_constant-only, large_constant-needed-1}

-- a fact of the statements before a position holds of all places before it
before_statement : (P : FlawLocation → Type 0) (n : ℕ) → ((p : ℕ) → p < n → P (Statement p)) → (k : FlawLocation) → IsBefore k (Statement n) → P k
before_statement P n below = each_location (λ k. IsBefore k (Statement n) → P k) below (λ h. absurd h) (λ h. absurd h) (λ h. absurd h)

third_part-shaped : (p : ℕ) → p < 2 → AllByRecursion (ShapedAt third_part (Statement p)) shape_reasons
third_part-shaped zero h = search rules
third_part-shaped (suc zero) h = search rules
third_part-shaped (suc (suc p)) h = absurd (omega arith)

pub third_part-flaw : IsFlawAt third_part (Statement 2) BadIndex
third_part-flaw = record {
  place = walked (search rules);
  first = search rules;
  before = λ k h b. before_statement (λ l. AllByRecursion (ShapedAt third_part l) shape_reasons) 2 third_part-shaped k b;
}

narrow_pair-shaped : (p : ℕ) → AllByRecursion (ShapedAt narrow_pair (Statement p)) shape_reasons
narrow_pair-shaped zero = search rules
narrow_pair-shaped (suc zero) = search rules
narrow_pair-shaped (suc (suc zero)) = search rules
narrow_pair-shaped (suc (suc (suc p))) = search rules

narrow_pair-shape : HasShape narrow_pair
narrow_pair-shape = each_location (λ l. IsPlace narrow_pair l → AllByRecursion (ShapedAt narrow_pair l) shape_reasons)
    (λ p h. narrow_pair-shaped p) (λ h. search rules) (λ h. search rules) (λ h. search rules)

narrow_pair-needed-2 : NeededIn narrow_pair 2
narrow_pair-needed-2 = walked (search rules)

narrow_pair-needed-1 : NeededIn narrow_pair 1
narrow_pair-needed-1 = used narrow_pair-needed-2 (search rules)

-- a solution of the place before
abbrev narrow_start : WidthMap
narrow_start = record { results = 5 ∷ []; operands = []; root = 0 }

narrow_start-solves : (p : ℕ) → p < 1 → SolvesAt narrow_pair narrow_start (Statement p)
narrow_start-solves zero h = search rules
narrow_start-solves (suc p) h = absurd (omega arith)

pub narrow_pair-flaw : IsFlawAt narrow_pair (Statement 1) (Conflict 0 1)
narrow_pair-flaw = (
  narrow_pair-shape,
  record {
    place = narrow_pair-needed-1;
    solved = (narrow_start, (λ k h b. before_statement (λ l. SolvesAt narrow_pair narrow_start l) 1 narrow_start-solves k b));
    unsolved = λ m before here. omega (arith, here);
    widths = inl ((tt, refl), refl, refl);
  },
)

unknown_operand-shaped : (p : ℕ) → AllByRecursion (ShapedAt unknown_operand (Statement p)) shape_reasons
unknown_operand-shaped zero = search rules
unknown_operand-shaped (suc zero) = search rules
unknown_operand-shaped (suc (suc p)) = search rules

unknown_operand-shape : HasShape unknown_operand
unknown_operand-shape = each_location (λ l. IsPlace unknown_operand l → AllByRecursion (ShapedAt unknown_operand l) shape_reasons)
    (λ p h. unknown_operand-shaped p) (λ h. search rules) (λ h. search rules) (λ h. search rules)

unknown_operand-needed-1 : NeededIn unknown_operand 1
unknown_operand-needed-1 = walked (search rules)

unknown_operand-needed-0 : NeededIn unknown_operand 0
unknown_operand-needed-0 = used unknown_operand-needed-1 (search rules)

-- the widths if the operand has n bits more than one
abbrev by_operand : ℕ → WidthMap
by_operand n = record { results = suc n ∷ 2 ∷ []; operands = 0 ∷ suc n ∷ []; root = 2 }

by_operand-solves : (n p : ℕ) → SolvesAt unknown_operand (by_operand n) (Statement p)
by_operand-solves n zero = search rules
by_operand-solves n (suc zero) = search rules
by_operand-solves n (suc (suc p)) = search rules

by_operand-has : (n : ℕ) → HasWidths unknown_operand (by_operand n)
by_operand-has n = record {
  results = refl;
  operands = refl;
  holds = each_location (λ l. IsPlace unknown_operand l → SolvesAt unknown_operand (by_operand n) l) (λ p h. by_operand-solves n p) (λ h. search rules) (λ h. search rules) (λ h. search rules);
  unneeded = unneeded;
}
  where
    unneeded : (p : ℕ) → ¬ NeededIn unknown_operand p → (result_width (by_operand n) p ≡ 0) × (operand_width (by_operand n) p ≡ 0)
    unneeded zero h = absurd (h unknown_operand-needed-0)
    unneeded (suc zero) h = absurd (h unknown_operand-needed-1)
    unneeded (suc (suc p)) h = (refl, refl)

pub unknown_operand-flaw : IsFlawAt unknown_operand (Statement 0) Undetermined
unknown_operand-flaw = (
  unknown_operand-shape,
  record {
    place = unknown_operand-needed-0;
    differ = (by_operand 0, by_operand 1, by_operand-has 0, by_operand-has 1, (λ h. omega (arith, h.0)));
    agree = λ m n mh nh k h b. before_statement (λ l. AgreeAt m n l) 0 (λ p q. absurd (omega (arith, q))) k b;
  },
)

large_constant-kept : (p : ℕ) → p < 1 → AllByRecursion (KeepsAt large_constant large_constant_widths (Statement p)) limit_reasons
large_constant-kept zero h = search rules
large_constant-kept (suc p) h = absurd (omega arith)

pub large_constant-flaw : IsFlawAt large_constant (Statement 1) ConstantTooWide
large_constant-flaw = (
  large_constant_widths,
  record { shape = large_constant-shape; has = large_constant-has; only = large_constant-only },
  record {
    place = large_constant-needed-1;
    first = search rules;
    before = λ k h b. before_statement (λ l. AllByRecursion (KeepsAt large_constant large_constant_widths l) limit_reasons) 1 large_constant-kept k b;
  },
)
