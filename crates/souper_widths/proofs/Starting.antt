-- The classes before any tie: each node is its own root, and has no number.
use Rattle.std.proofs.Common.{◌≡◌, ℕ, zero, suc, ◌<◌, List, length, get_or, refl, sym, ap, ◌∙◌, arith}
use Rattle.std.specs.Prelude.{replicate}
use Rattle.souper_graph.specs.declared.ast.flaws.FlawLocation.TheVariants.{Statement}
use Rattle.souper_graph.specs.Values.{Item}
use Rattle.souper_graph.specs.Flaws.{IsBefore}
use Rattle.souper_widths.specs.Places.{IsPlace}
use Rattle.souper_widths.specs.Flaws.{IsNarrowPair}
use Rattle.souper_widths.specs.Forest.{AreClasses, Solves}
use Rattle.souper_widths.specs.Ties.{AreTied}
use Rattle.souper_widths.specs.Nodes.{listed, ties_at, ClassesOf}
use Rattle.souper_widths.proofs.Locations.{each_location}
use Rattle.souper_widths.proofs.NodeWidths.{length-listed, listed-at}

abbrev pub own : ℕ → ℕ
own i = i

abbrev pub no_numbers : ℕ → List ℕ
no_numbers n = replicate n 0

zeros : (n i : ℕ) → get_or (no_numbers n) i 0 ≡ 0
zeros zero i = refl
zeros (suc n) zero = refl
zeros (suc n) (suc i) = zeros n i

length-zeros : (n : ℕ) → length (no_numbers n) ≡ n
length-zeros zero = refl
length-zeros (suc n) = ap (λ (z : ℕ). suc z) (length-zeros n)

root-at : (n i : ℕ) → i < length (listed own n) → get_or (listed own n) i 0 ≡ i
root-at n i l = listed-at own n i (omega (arith, l, length-listed own n))

pub start-classes : (n : ℕ) → AreClasses (listed own n) (no_numbers n)
start-classes n = record {
  size = length-zeros n ∙ sym (length-listed own n);
  forest = record { lower = λ i l. omega (arith, root-at n i l) };
  rooted = λ i ne. absurd (ne (zeros n i));
}

start-solves : (n : ℕ) (u : ℕ → ℕ) → Solves u (listed own n) (no_numbers n)
start-solves n u = record { follows = λ i l. ap u (sym (root-at n i l)); numbered = λ i ne. absurd (ne (zeros n i)) }

pub start-of : (a : Item) (n : ℕ) → ClassesOf a (λ k. IsBefore k (Statement 0)) (listed own n) (no_numbers n)
start-of a n = record {
  to = λ u h. start-solves n u;
  back = λ u s. each_location (λ k. IsBefore k (Statement 0) → IsPlace a k → AreTied u (ties_at a k)) (λ p l. absurd (omega (arith, l))) (λ b. absurd b) (λ b. absurd b) (λ b. absurd b);
  wide = each_location (λ k. IsBefore k (Statement 0) → IsPlace a k → ¬ IsNarrowPair a k) (λ p l. absurd (omega (arith, l))) (λ b. absurd b) (λ b. absurd b) (λ b. absurd b);
}
