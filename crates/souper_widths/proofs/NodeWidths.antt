-- Widths of nodes that follow a map, and a map that shows widths of nodes.
use Rattle.std.proofs.Common.{◌≡◌, ◌≢◌, ℕ, zero, suc, ◌+◌, ◌-◌, ◌*◌, ◌<◌, inl, inr, Bool, true, false, cond, List, [], ◌∷◌, length, get_or, refl, sym, ap, ◌∙◌, arith, eq-eqb}
use Rattle.std.proofs.lemmas.Bool.Decides.{eqb_tells}
use Rattle.std.proofs.lemmas.List.{get_or_push, length-append}
use Rattle.std.proofs.Math.ListN.{get_or-append}
use Rattle.souper_graph.specs.Values.{Item}
use Rattle.souper_graph.specs.Uses.{NeededIn}
use Rattle.souper_widths.specs.Maps.{WidthMap, result_width}
use Rattle.souper_widths.specs.Ties.{result_more, shown_result, shown_operands}
use Rattle.souper_widths.specs.Nodes.{row_at, FollowsMap, ShowsNodes, listed, shown_at, operands_shown_at, map_of, by_turns, result_node, operands_node, nodes_of}

pub length-listed : (f : ℕ → ℕ) (n : ℕ) → length (listed f n) ≡ n
length-listed f zero = refl
length-listed f (suc n) = omega (arith, length-append {A = ℕ} (listed f n) (f n ∷ []), length-listed f n)

pub listed-at : (f : ℕ → ℕ) (n i : ℕ) → i < n → get_or (listed f n) i 0 ≡ f i
listed-at f zero i h = absurd (omega arith)
listed-at f (suc n) i h = elim (eqb_tells i n) [
  | inl e ↦ ap (λ (z : ℕ). get_or (listed f (suc n)) z 0) e.1 ∙ get_or_push (listed f n) (f n) 0 n (length-listed f n) ∙ ap f (sym e.1)
  | inr e ↦ get_or-append (listed f n) (f n ∷ []) 0 i (omega (arith, length-listed f n, h, e.1)) ∙ listed-at f n i (omega (arith, h, e.1))
]

even-turn : (f g : ℕ → ℕ) (p : ℕ) → by_turns f g (2 * p) ≡ f p
even-turn f g zero = refl
even-turn f g (suc p) =
    let e : 2 * suc p ≡ suc (suc (2 * p)) = omega arith in
    ap (by_turns f g) e ∙ even-turn (λ k. f (suc k)) (λ k. g (suc k)) p

odd-turn : (f g : ℕ → ℕ) (p : ℕ) → by_turns f g (2 * p + 1) ≡ g p
odd-turn f g zero = refl
odd-turn f g (suc p) =
    let e : 2 * suc p + 1 ≡ suc (suc (2 * p + 1)) = omega arith in
    ap (by_turns f g) e ∙ odd-turn (λ k. f (suc k)) (λ k. g (suc k)) p

other-node : (a : Item) (m : WidthMap) (p : ℕ) → p ≢ length a.statements → result_node a m p ≡ result_width m p - result_more (row_at a.statements p)
other-node a m p ne = elim (eqb_tells p (length a.statements)) [
  | inl e ↦ absurd (ne e.1)
  | inr e ↦ ap (λ (b : Bool). cond b m.root (result_width m p - result_more (row_at a.statements p))) e.0
]

root-node : (a : Item) (m : WidthMap) → result_node a m (length a.statements) ≡ m.root
root-node a m = ap (λ (b : Bool). cond b m.root (result_width m (length a.statements) - result_more (row_at a.statements (length a.statements)))) (eq-eqb (length a.statements) (length a.statements) refl)

pub follows-map : (a : Item) (m : WidthMap) → FollowsMap a m (nodes_of a m)
follows-map a m = record {
  results = λ p l. even-turn (result_node a m) (operands_node a m) p ∙ other-node a m p (λ e. absurd (omega (arith, e, l)));
  operands = λ p l. odd-turn (result_node a m) (operands_node a m) p;
  root = even-turn (result_node a m) (operands_node a m) (length a.statements) ∙ root-node a m;
}

-- each needed position is marked, and within the statements
pub shows-map : (a : Item) (marks : List Bool) (u : ℕ → ℕ) → ((p : ℕ) → NeededIn a p → get_or marks p false ≡ true) → ((p : ℕ) → NeededIn a p → p < length a.statements) → ShowsNodes a (map_of a.statements marks u) u
shows-map a marks u marked within = record {
  results = λ p n. listed-at (shown_at a.statements marks u) (length a.statements) p (within p n) ∙ ap (λ (b : Bool). cond b (shown_result (row_at a.statements p) (u (2 * p))) 0) (marked p n);
  operands = λ p n. listed-at (operands_shown_at a.statements marks u) (length a.statements) p (within p n) ∙ ap (λ (b : Bool). cond b (shown_operands (row_at a.statements p) (u (2 * p + 1))) 0) (marked p n);
  root = refl;
}
