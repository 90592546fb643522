-- Forests: a node moved up to its grandparent, and a root put below another.
use Rattle.std.proofs.Common.{◌≡◌, ◌≢◌, ℕ, ◌<◌, ◌≤◌, ◌⊎◌, inl, inr, length, List, get_or, refl, sym, ap, ◌∙◌, arith}
use Rattle.std.proofs.Math.ListN.{set, length-set}
use Rattle.std.proofs.lemmas.List.{get_or-set_other, get_or-set_same}
use Rattle.std.proofs.lemmas.Bool.Decides.{eqb_tells}
use Rattle.souper_widths.specs.Forest.{IsForest, Follows, SameTrees}

-- a number is another one or not
pub one_or_other : (i k : ℕ) → (i ≡ k) ⊎ (i ≢ k)
one_or_other i k = elim (eqb_tells i k) [ inl t ↦ inl t.1 | inr t ↦ inr t.1 ]

-- what a list has after a write, at the place and elsewhere
pub get-set : (xs : List ℕ) (k v i : ℕ) → k < length xs → ((i ≡ k) × (get_or (set xs k v) i 0 ≡ v)) ⊎ ((i ≢ k) × (get_or (set xs k v) i 0 ≡ get_or xs i 0))
get-set xs k v i h = elim (one_or_other i k) [
  | inl e ↦ inl (e, ap (λ (z : ℕ). get_or (set xs k v) z 0) e ∙ get_or-set_same xs k v 0 h)
  | inr ne ↦ inr (ne, get_or-set_other xs k i v 0 ne)
]

pub same-refl : (ps : List ℕ) → SameTrees ps ps
same-refl ps = record { size = refl; to = λ u f. f; back = λ u f. f; roots = λ i e. e }

pub same-trans : (ps qs rs : List ℕ) → SameTrees ps qs → SameTrees qs rs → SameTrees ps rs
same-trans ps qs rs a b = record {
  size = b.size ∙ a.size;
  to = λ u f. b.to u (a.to u f);
  back = λ u f. a.back u (b.back u f);
  roots = λ i e. b.roots i (a.roots i e);
}

-- a write of a number that is no greater than its place
pub forest-set : (ps : List ℕ) (k v : ℕ) → IsForest ps → k < length ps → v ≤ k → IsForest (set ps k v)
forest-set ps k v f within low = record { lower = lower }
  where
    lower : (i : ℕ) → i < length (set ps k v) → get_or (set ps k v) i 0 ≤ i
    lower i h = elim (get-set ps k v i within) [
      | inl t ↦ omega (arith, t.0, t.1, low)
      | inr t ↦ omega (arith, t.1, f.lower i (omega (arith, length-set ps k v, h)))
    ]

-- a node that is no root gets its grandparent as its parent
pub moved-up : (ps : List ℕ) (k : ℕ) → IsForest ps → k < length ps → get_or ps k 0 ≢ k → SameTrees ps (set ps k (get_or ps (get_or ps k 0) 0))
moved-up ps k f within inner = record { size = length-set ps k v; to = to; back = back; roots = roots }
  where
    p : ℕ
    p = get_or ps k 0

    v : ℕ
    v = get_or ps p 0

    above : p < length ps
    above = omega (arith, f.lower k within, within)

    to : (u : ℕ → ℕ) → Follows u ps → Follows u (set ps k v)
    to u h i l = elim (get-set ps k v i within) [
      | inl t ↦ ap u t.0 ∙ h k within ∙ h p above ∙ ap u (sym t.1)
      | inr t ↦ h i (omega (arith, length-set ps k v, l)) ∙ ap u (sym t.1)
    ]

    back : (u : ℕ → ℕ) → Follows u (set ps k v) → Follows u ps
    back u h i l = elim (one_or_other i k) [
      | inl e ↦ ap u e ∙ up ∙ ap (λ (z : ℕ). u (get_or ps z 0)) (sym e)
      | inr ne ↦ h i (omega (arith, length-set ps k v, l)) ∙ ap u (get_or-set_other ps k i v 0 ne)
    ]
      where
        here : u k ≡ u v
        here = h k (omega (arith, length-set ps k v, within)) ∙ ap u (get_or-set_same ps k v 0 within)

        there : u p ≡ u v
        there = h p (omega (arith, length-set ps k v, above)) ∙ ap u (get_or-set_other ps k p v 0 inner)

        up : u k ≡ u p
        up = here ∙ sym there

    roots : (i : ℕ) → get_or ps i 0 ≡ i → get_or (set ps k v) i 0 ≡ i
    roots i e = elim (get-set ps k v i within) [
      | inl t ↦ absurd (inner (ap (λ (z : ℕ). get_or ps z 0) (sym t.0) ∙ e ∙ t.0))
      | inr t ↦ t.1 ∙ e
    ]
