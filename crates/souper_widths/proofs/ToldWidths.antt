-- The widths that the numbers of classes tell.
use Rattle.std.proofs.Common.{◌≡◌, ◌≢◌, ℕ, zero, suc, ◌+◌, ◌<◌, ◌≤◌, inl, inr, Bool, cond, List, [], ◌∷◌, ◌++◌, length, get_or, refl, sym, ap, ◌∙◌, subst, arith, eq-eqb, add-one}
use Rattle.std.proofs.lemmas.Bool.Decides.{eqb_tells}
use Rattle.std.proofs.lemmas.List.{get_or_push, length-append}
use Rattle.std.proofs.Math.ListN.{get_or-append}
use Rattle.std.specs.Prelude.{◌==◌}
use Rattle.souper_widths.specs.Forest.{IsForest, AreClasses, Solves, widths_below, filled, TellsWidths}

pub length-below : (ps ns : List ℕ) (n : ℕ) → length (widths_below ps ns n) ≡ n
length-below ps ns zero = refl
length-below ps ns (suc n) = omega (arith, length-append {A = ℕ} (widths_below ps ns n) (next ∷ []), length-below ps ns n)
  where
    next : ℕ
    next = cond (get_or ps n 0 == n) (get_or ns n 0) (get_or (widths_below ps ns n) (get_or ps n 0) 0)

-- a width stays as it is when there are more
later : (ps ns : List ℕ) (n i : ℕ) → i < n → get_or (widths_below ps ns (suc n)) i 0 ≡ get_or (widths_below ps ns n) i 0
later ps ns n i h = get_or-append (widths_below ps ns n) (cond (get_or ps n 0 == n) (get_or ns n 0) (get_or (widths_below ps ns n) (get_or ps n 0) 0) ∷ []) 0 i (omega (arith, length-below ps ns n, h))

-- the width at a node, among any number of widths
at-node : (ps ns : List ℕ) (n i : ℕ) → i < n → get_or (widths_below ps ns n) i 0 ≡ cond (get_or ps i 0 == i) (get_or ns i 0) (get_or (widths_below ps ns i) (get_or ps i 0) 0)
at-node ps ns zero i h = absurd (omega arith)
at-node ps ns (suc n) i h = elim (eqb_tells i n) [
  | inl e ↦ ap (λ (z : ℕ). get_or (widths_below ps ns (suc n)) z 0) e.1
      ∙ get_or_push (widths_below ps ns n) (cond (get_or ps n 0 == n) (get_or ns n 0) (get_or (widths_below ps ns n) (get_or ps n 0) 0)) 0 n (length-below ps ns n)
      ∙ ap (λ (z : ℕ). cond (get_or ps z 0 == z) (get_or ns z 0) (get_or (widths_below ps ns z) (get_or ps z 0) 0)) (sym e.1)
  | inr e ↦ later ps ns n i (omega (arith, h, e.1)) ∙ at-node ps ns n i (omega (arith, h, e.1))
]

-- widths below one node are among those below a later one
same-below : (ps ns : List ℕ) (m n i : ℕ) → i < m → i < n → get_or (widths_below ps ns m) i 0 ≡ get_or (widths_below ps ns n) i 0
same-below ps ns m n i h k = at-node ps ns m i h ∙ sym (at-node ps ns n i k)

-- a root has its number, any other node the width of its parent
pub root-width : (ps ns : List ℕ) (n i : ℕ) → i < n → get_or ps i 0 ≡ i → get_or (widths_below ps ns n) i 0 ≡ get_or ns i 0
root-width ps ns n i h e = at-node ps ns n i h ∙ ap (λ (b : Bool). cond b (get_or ns i 0) (get_or (widths_below ps ns i) (get_or ps i 0) 0)) (eq-eqb (get_or ps i 0) i e)

pub child-width : (ps ns : List ℕ) (n i : ℕ) → IsForest ps → n ≤ length ps → i < n → get_or ps i 0 ≢ i → get_or (widths_below ps ns n) i 0 ≡ get_or (widths_below ps ns n) (get_or ps i 0) 0
child-width ps ns n i f size h ne = elim (eqb_tells (get_or ps i 0) i) [
  | inl e ↦ absurd (ne e.1)
  | inr e ↦
      let low : get_or ps i 0 ≤ i = f.lower i (omega (arith, h, size)) in
      let less : get_or ps i 0 < i = omega (arith, low, ne) in
      at-node ps ns n i h ∙ ap (λ (b : Bool). cond b (get_or ns i 0) (get_or (widths_below ps ns i) (get_or ps i 0) 0)) e.0
      ∙ same-below ps ns i n (get_or ps i 0) less (omega (arith, less, h))
]

-- no number stands past the end of a list
inside : (xs : List ℕ) (i : ℕ) → get_or xs i 0 ≢ 0 → i < length xs
inside [] i ne = absurd (ne refl)
inside (x ∷ xs) zero ne = omega arith
inside (x ∷ xs) (suc i) ne = omega (arith, inside xs i ne)

known-below : (ps ns : List ℕ) (u : ℕ → ℕ) → AreClasses ps ns → Solves u ps ns → (k i : ℕ) → i < k → i < length ps → get_or (widths_below ps ns (length ps)) i 0 ≢ 0 → u i ≡ get_or (widths_below ps ns (length ps)) i 0
known-below ps ns u c s zero i h l ne = absurd (omega arith)
known-below ps ns u c s (suc k) i h l ne = elim (eqb_tells (get_or ps i 0) i) [
  | inl e ↦
      let w = root-width ps ns (length ps) i l e.1 in
      s.numbered i (λ z. ne (w ∙ z)) ∙ sym w
  | inr e ↦
      let low : get_or ps i 0 ≤ i = c.forest.lower i l in
      let less : get_or ps i 0 < i = omega (arith, low, e.1) in
      let w = child-width ps ns (length ps) i c.forest (omega arith) l e.1 in
      s.follows i l ∙ known-below ps ns u c s k (get_or ps i 0) (omega (arith, less, h)) (omega (arith, less, l)) (λ z. ne (w ∙ z)) ∙ sym w
]

filled-number : (d x : ℕ) → x ≢ 0 → cond (x == 0) d x ≡ x
filled-number d x ne = elim (eqb_tells x 0) [
  | inl e ↦ absurd (ne e.1)
  | inr e ↦ ap (λ (b : Bool). cond b d x) e.0
]

free-solves : (ps ns : List ℕ) → AreClasses ps ns → (d : ℕ) → Solves (filled d (widths_below ps ns (length ps))) ps ns
free-solves ps ns c d = record { follows = follows; numbered = numbered }
  where
    ws : List ℕ
    ws = widths_below ps ns (length ps)

    follows : (i : ℕ) → i < length ps → filled d ws i ≡ filled d ws (get_or ps i 0)
    follows i l = elim (eqb_tells (get_or ps i 0) i) [
      | inl e ↦ ap (filled d ws) (sym e.1)
      | inr e ↦ ap (λ (z : ℕ). cond (z == 0) d z) (child-width ps ns (length ps) i c.forest (omega arith) l e.1)
    ]

    numbered : (i : ℕ) → get_or ns i 0 ≢ 0 → filled d ws i ≡ get_or ns i 0
    numbered i ne =
        let l : i < length ps = omega (arith, inside ns i ne, c.size) in
        let w = root-width ps ns (length ps) i l (c.rooted i ne) in
        filled-number d (get_or ws i 0) (λ z. ne (sym w ∙ z)) ∙ w

pub tells-widths : (ps ns ws : List ℕ) (n : ℕ) → AreClasses ps ns → n ≡ length ps → ws ≡ widths_below ps ns n → TellsWidths ps ns ws
tells-widths ps ns ws n c size e = subst (TellsWidths ps ns) (sym (e ∙ ap (widths_below ps ns) size)) (record {
  size = length-below ps ns (length ps);
  known = λ u s i ne. known-below ps ns u c s (i + 1) i (omega arith) (omega (arith, inside (widths_below ps ns (length ps)) i ne, length-below ps ns (length ps))) ne;
  free = λ d p. free-solves ps ns c d;
})

-- some widths are told by any classes
pub told-widths : (ps ns : List ℕ) → AreClasses ps ns → (ws : List ℕ) × TellsWidths ps ns ws
told-widths ps ns c = (widths_below ps ns (length ps), tells-widths ps ns (widths_below ps ns (length ps)) (length ps) c refl refl)

-- one more width: of a root, or of another node
next-width : (ps ns ws : List ℕ) (n x : ℕ) → ws ≡ widths_below ps ns n → x ≡ cond (get_or ps n 0 == n) (get_or ns n 0) (get_or ws (get_or ps n 0) 0) → ws ++ x ∷ [] ≡ widths_below ps ns (n + 1)
next-width ps ns ws n x e f =
    ap (λ (z : ℕ). ws ++ z ∷ []) f
    ∙ ap (λ (z : List ℕ). z ++ cond (get_or ps n 0 == n) (get_or ns n 0) (get_or z (get_or ps n 0) 0) ∷ []) e
    ∙ ap (widths_below ps ns) (sym (add-one n))

pub next-root : (ps ns ws : List ℕ) (n x : ℕ) → ws ≡ widths_below ps ns n → get_or ps n 0 ≡ n → x ≡ get_or ns n 0 → ws ++ x ∷ [] ≡ widths_below ps ns (n + 1)
next-root ps ns ws n x e r f = next-width ps ns ws n x e (f ∙ sym (ap (λ (b : Bool). cond b (get_or ns n 0) (get_or ws (get_or ps n 0) 0)) (eq-eqb (get_or ps n 0) n r)))

pub next-child : (ps ns ws : List ℕ) (n x : ℕ) → ws ≡ widths_below ps ns n → get_or ps n 0 ≢ n → x ≡ get_or ws (get_or ps n 0) 0 → ws ++ x ∷ [] ≡ widths_below ps ns (n + 1)
next-child ps ns ws n x e r f = elim (eqb_tells (get_or ps n 0) n) [
  | inl t ↦ absurd (r t.1)
  | inr t ↦ next-width ps ns ws n x e (f ∙ sym (ap (λ (b : Bool). cond b (get_or ns n 0) (get_or ws (get_or ps n 0) 0)) t.0))
]
