-- Classes of one place more.
use Rattle.std.proofs.Common.{◌≡◌, ℕ, ◌+◌, inl, inr, List, Option, Some, sym, ap, subst, arith}
use Rattle.std.specs.Prelude.{flat_map}
use Rattle.souper_graph.specs.Values.{PlainStatement}
use Rattle.souper_widths.specs.Table.{statement_equations}
use Rattle.souper_graph.specs.declared.ast.flaws.FlawLocation.{FlawLocation}
use Rattle.souper_graph.specs.declared.ast.flaws.FlawLocation.TheVariants.{Statement}
use Rattle.souper_graph.specs.Values.{Item}
use Rattle.souper_graph.specs.Uses.{NeededIn}
use Rattle.souper_graph.specs.Flaws.{IsBefore}
use Rattle.souper_widths.specs.Places.{IsPlace}
use Rattle.souper_widths.specs.Flaws.{IsNarrowPair}
use Rattle.souper_widths.specs.Ties.{ties_of, statement_ties, AreTied, AddsTies}
use Rattle.souper_widths.specs.Nodes.{optional_row, ties_at, ClassesOf}
use Rattle.souper_widths.proofs.Forests.{one_or_other}
use Rattle.souper_widths.proofs.Locations.{each_location}

-- what holds before a statement and there holds before the next
next-before : (P : FlawLocation → Type 0) (n : ℕ) → ((k : FlawLocation) → IsBefore k (Statement n) → P k) → P (Statement n) → (k : FlawLocation) → IsBefore k (Statement (n + 1)) → P k
next-before P n before here = each_location (λ k. IsBefore k (Statement (n + 1)) → P k)
    (λ p l. elim (one_or_other p n) [
      | inl e ↦ subst (λ (z : ℕ). P (Statement z)) (sym e) here
      | inr ne ↦ before (Statement p) (omega (arith, ne, l))
    ])
    (λ b. absurd b) (λ b. absurd b) (λ b. absurd b)

earlier : (n : ℕ) (k : FlawLocation) → IsBefore k (Statement n) → IsBefore k (Statement (n + 1))
earlier n = each_location (λ k. IsBefore k (Statement n) → IsBefore k (Statement (n + 1))) (λ p l. omega (arith, l)) (λ b. absurd b) (λ b. absurd b) (λ b. absurd b)

-- the ties of a needed statement are added
pub classes-next : (a : Item) (n : ℕ) (ps ns qs ms : List ℕ) → ClassesOf a (λ k. IsBefore k (Statement n)) ps ns → NeededIn a n → ¬ IsNarrowPair a (Statement n) → AddsTies ps ns qs ms (ties_at a (Statement n))
    → ClassesOf a (λ k. IsBefore k (Statement (n + 1))) qs ms
classes-next a n ps ns qs ms c needed wide added = record {
  to = λ u h. added.to u (c.to u (λ k d p. h k (earlier n k d) p)) (h (Statement n) (omega arith) needed);
  back = λ u s. next-before (λ k. IsPlace a k → AreTied u (ties_at a k)) n (λ k d p. c.back u (added.back u s) k d p) (λ p. added.tied u s);
  wide = next-before (λ k. IsPlace a k → ¬ IsNarrowPair a k) n (λ k d p. c.wide k d p) (λ p. wide);
}

-- a statement that is not needed has none
pub classes-skip : (a : Item) (n : ℕ) (ps ns : List ℕ) → ClassesOf a (λ k. IsBefore k (Statement n)) ps ns → ¬ NeededIn a n → ClassesOf a (λ k. IsBefore k (Statement (n + 1))) ps ns
classes-skip a n ps ns c other = record {
  to = λ u h. c.to u (λ k d p. h k (earlier n k d) p);
  back = λ u s. next-before (λ k. IsPlace a k → AreTied u (ties_at a k)) n (λ k d p. c.back u s k d p) (λ p. absurd (other p));
  wide = next-before (λ k. IsPlace a k → ¬ IsNarrowPair a k) n (λ k d p. c.wide k d p) (λ p. absurd (other p));
}

-- the ties of a statement are those of its place
pub ties-are : (p : ℕ) (s : PlainStatement) (o : Option PlainStatement) → o ≡ Some s → flat_map (ties_of 0 (optional_row o)) (statement_equations p o) ≡ statement_ties p s
ties-are p s o e = ap (λ (z : Option PlainStatement). flat_map (ties_of 0 (optional_row z)) (statement_equations p z)) e
