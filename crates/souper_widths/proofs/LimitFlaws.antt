-- The first flaw of the limits of the needed statements.
use Rattle.std.proofs.Common.{◌≡◌, ℕ, ◌+◌, ◌<◌, inl, inr, Bool, true, Option, Some, None, refl, sym, subst, arith}
use Rattle.std.specs.Prelude.{slice_get, IsTrue, MatchOption}
use Rattle.std.specs.List.{AllByRecursion}
use Rattle.souper_graph.specs.declared.ast.flaws.FlawLocation.TheVariants.{Statement}
use Rattle.souper_graph.specs.Values.{PlainStatement, Item}
use Rattle.souper_graph.specs.Uses.{NeededIn}
use Rattle.souper_graph.specs.Flaws.{IsBefore}
use Rattle.souper_widths.specs.declared.flaws.WidthReason.{WidthReason}
use Rattle.souper_widths.specs.Maps.{WidthMap, result_width, operand_width}
use Rattle.souper_widths.specs.Places.{IsPlace}
use Rattle.souper_widths.specs.Limits.{KeepsStatement, KeepsAt, limit_reasons}
use Rattle.souper_widths.specs.Kept.{KeptStatement, KeptOptional}
use Rattle.souper_widths.specs.Flaws.{IsFirstFailing, IsFirstOfClass}
use Rattle.souper_widths.proofs.Forests.{one_or_other}
use Rattle.souper_widths.proofs.Locations.{each_location}
use Rattle.souper_widths.proofs.Lines.{first-not_all}
use Rattle.souper_widths.proofs.KeptLimits.{statement-kept, statement-fails}

pub some-kept : (w v : ℕ) (o : Option PlainStatement) (s : PlainStatement) (b : Bool) (r : Option WidthReason) → o ≡ Some s → b ≡ true
    → MatchOption r (AllByRecursion (KeptStatement w v s) limit_reasons) (λ q. IsFirstFailing (KeptStatement w v s) limit_reasons q)
    → MatchOption r (IsTrue b → AllByRecursion (KeptOptional w v o) limit_reasons) (λ q. IsTrue b × IsFirstFailing (KeptOptional w v o) limit_reasons q)
some-kept w v o s b None e t h = λ _. subst (λ (z : Option PlainStatement). AllByRecursion (KeptOptional w v z) limit_reasons) (sym e) h
some-kept w v o s b (Some r) e t h = (t, subst (λ (z : Option PlainStatement). IsFirstFailing (KeptOptional w v z) limit_reasons r) (sym e) h)

pub none-kept : (w v : ℕ) (o : Option PlainStatement) → o ≡ None → AllByRecursion (KeptOptional w v o) limit_reasons
none-kept w v o e = subst (λ (z : Option PlainStatement). AllByRecursion (KeptOptional w v z) limit_reasons) (sym e) (tt, (tt, (tt, (tt, (tt, (tt, (tt, tt)))))))

-- by numbers, as by the map
optional-kept : (m : WidthMap) (p : ℕ) (o : Option PlainStatement) → AllByRecursion (KeptOptional (result_width m p) (operand_width m p) o) limit_reasons → AllByRecursion (KeepsStatement m p o) limit_reasons
optional-kept m p None h = (tt, (tt, (tt, (tt, (tt, (tt, (tt, tt)))))))
optional-kept m p (Some s) h = statement-kept m p s (Some s) refl h

optional-fails : (m : WidthMap) (p : ℕ) (o : Option PlainStatement) (r : WidthReason) → IsFirstFailing (KeptOptional (result_width m p) (operand_width m p) o) limit_reasons r → IsFirstFailing (KeepsStatement m p o) limit_reasons r
optional-fails m p None r h = absurd (first-not_all (KeptOptional (result_width m p) (operand_width m p) None) limit_reasons r h (tt, (tt, (tt, (tt, (tt, (tt, (tt, tt))))))))
optional-fails m p (Some s) r h = statement-fails m p s (Some s) r refl h

abbrev pub KeptBefore : Item → WidthMap → ℕ → Type 0
KeptBefore a m n = (p : ℕ) → NeededIn a p → p < n → AllByRecursion (KeepsAt a m (Statement p)) limit_reasons

-- one more statement keeps the limits, by its widths w and v
pub kept-more : (a : Item) (m : WidthMap) (n w v : ℕ) → w ≡ result_width m n → v ≡ operand_width m n → (NeededIn a n → AllByRecursion (KeptOptional w v (slice_get a.statements n)) limit_reasons) → KeptBefore a m n → KeptBefore a m (n + 1)
kept-more a m n w v e f here before p needed l = elim (one_or_other p n) [
  | inl q ↦ subst (λ (z : ℕ). AllByRecursion (KeepsAt a m (Statement z)) limit_reasons) (sym q) (optional-kept m n (slice_get a.statements n) (by_map (here (subst (NeededIn a) q needed))))
  | inr ne ↦ before p needed (omega (arith, ne, l))
]
  where
    by_map : AllByRecursion (KeptOptional w v (slice_get a.statements n)) limit_reasons → AllByRecursion (KeptOptional (result_width m n) (operand_width m n) (slice_get a.statements n)) limit_reasons
    by_map h = subst (λ (z : ℕ). AllByRecursion (KeptOptional z (operand_width m n) (slice_get a.statements n)) limit_reasons) e
        (subst (λ (z : ℕ). AllByRecursion (KeptOptional w z (slice_get a.statements n)) limit_reasons) f h)

pub limit-first : (a : Item) (m : WidthMap) (n w v : ℕ) (r : WidthReason) → w ≡ result_width m n → v ≡ operand_width m n → NeededIn a n → IsFirstFailing (KeptOptional w v (slice_get a.statements n)) limit_reasons r → KeptBefore a m n
    → IsFirstOfClass a (KeepsAt a m) limit_reasons (Statement n) r
limit-first a m n w v r e f needed first before = record {
  place = needed;
  first = optional-fails m n (slice_get a.statements n) r
      (subst (λ (z : ℕ). IsFirstFailing (KeptOptional z (operand_width m n) (slice_get a.statements n)) limit_reasons r) e
      (subst (λ (z : ℕ). IsFirstFailing (KeptOptional w z (slice_get a.statements n)) limit_reasons r) f first));
  before = each_location (λ k. IsPlace a k → IsBefore k (Statement n) → AllByRecursion (KeepsAt a m k) limit_reasons) before (λ h b. absurd b) (λ h b. absurd b) (λ h b. absurd b);
}
