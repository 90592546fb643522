-- Classes: what solves them after nodes have moved, after a number, and after a tie.
use Rattle.std.proofs.Common.{◌≡◌, ℕ, ◌<◌, inl, inr, length, List, get_or, sym, ap, ◌∙◌, arith}
use Rattle.std.proofs.Math.ListN.{set}
use Rattle.souper_widths.specs.declared.ties.Side.{Side}
use Rattle.souper_widths.specs.declared.ties.Side.TheVariants.{Node, Number}
use Rattle.souper_widths.specs.Forest.{Follows, SameTrees, AreClasses, Solves, side_width, AddsTie, Refuses}
use Rattle.souper_widths.proofs.Forests.{get-set}

pub solves-to : (ps qs ns : List ℕ) (u : ℕ → ℕ) → SameTrees ps qs → Solves u ps ns → Solves u qs ns
solves-to ps qs ns u t s = record { follows = t.to u s.follows; numbered = s.numbered }

pub solves-back : (ps qs ns : List ℕ) (u : ℕ → ℕ) → SameTrees ps qs → Solves u qs ns → Solves u ps ns
solves-back ps qs ns u t s = record { follows = t.back u s.follows; numbered = s.numbered }

pub adds-sym : (ps ns qs ms : List ℕ) (l r : Side) → AddsTie ps ns qs ms l r → AddsTie ps ns qs ms r l
adds-sym ps ns qs ms l r a = record { to = λ u s e. a.to u s (sym e); back = a.back; tied = λ u s. sym (a.tied u s) }

pub refuses-sym : (ps ns : List ℕ) (l r : Side) (x y : ℕ) → Refuses ps ns l r x y → Refuses ps ns r l y x
refuses-sym ps ns l r x y a = record {
  differ = λ e. a.differ (sym e);
  left_positive = a.right_positive;
  right_positive = a.left_positive;
  sides = λ u s. ((a.sides u s).1, (a.sides u s).0);
}

-- a tie of two roots is one of their nodes
pub adds-through : (ps qs rs ns ms : List ℕ) (x y a b : ℕ) → SameTrees ps qs
    → ((u : ℕ → ℕ) → Follows u ps → u x ≡ u a) → ((u : ℕ → ℕ) → Follows u ps → u y ≡ u b)
    → AddsTie qs ns rs ms (Node a) (Node b) → AddsTie ps ns rs ms (Node x) (Node y)
adds-through ps qs rs ns ms x y a b t xa yb tie = record {
  to = λ u s e. tie.to u (solves-to ps qs ns u t s) (sym (xa u s.follows) ∙ e ∙ yb u s.follows);
  back = λ u s. solves-back ps qs ns u t (tie.back u s);
  tied = λ u s. let f = t.back u (tie.back u s).follows in xa u f ∙ tie.tied u s ∙ sym (yb u f);
}

-- nodes of one class are tied
pub adds-nothing : (ps qs ns : List ℕ) (l r : Side) → SameTrees ps qs → ((u : ℕ → ℕ) → Solves u ps ns → side_width u l ≡ side_width u r) → AddsTie ps ns qs ns l r
adds-nothing ps qs ns l r t e = record {
  to = λ u s _. solves-to ps qs ns u t s;
  back = λ u s. solves-back ps qs ns u t s;
  tied = λ u s. e u (solves-back ps qs ns u t s);
}

-- a root without a number gets one
pub adds-number : (ps qs ns : List ℕ) (x a n : ℕ) → SameTrees ps qs → AreClasses ps ns → a < length ns → get_or ns a 0 ≡ 0 → 0 < n
    → ((u : ℕ → ℕ) → Follows u ps → u x ≡ u a) → AddsTie ps ns qs (set ns a n) (Node x) (Number n)
adds-number ps qs ns x a n t classes within none positive xa = record { to = to; back = back; tied = tied }
  where
    to : (u : ℕ → ℕ) → Solves u ps ns → u x ≡ n → Solves u qs (set ns a n)
    to u s e = record {
      follows = t.to u s.follows;
      numbered = λ i ne. elim (get-set ns a n i within) [
        | inl p ↦ ap u p.0 ∙ sym (xa u s.follows) ∙ e ∙ sym p.1
        | inr p ↦ s.numbered i (λ z. ne (p.1 ∙ z)) ∙ sym p.1
      ];
    }

    back : (u : ℕ → ℕ) → Solves u qs (set ns a n) → Solves u ps ns
    back u s = record {
      follows = t.back u s.follows;
      numbered = λ i ne. elim (get-set ns a n i within) [
        | inl p ↦ absurd (ne (ap (λ (z : ℕ). get_or ns z 0) p.0 ∙ none))
        | inr p ↦ s.numbered i (λ z. ne (sym p.1 ∙ z)) ∙ p.1
      ];
    }

    tied : (u : ℕ → ℕ) → Solves u qs (set ns a n) → u x ≡ n
    tied u s = elim (get-set ns a n a within) [
      | inl p ↦ xa u (t.back u s.follows) ∙ s.numbered a (λ z. omega (arith, p.1, z, positive)) ∙ p.1
      | inr p ↦ absurd (p.0 (refl_at a))
    ]
      where
        refl_at : (k : ℕ) → k ≡ k
        refl_at k = omega arith
