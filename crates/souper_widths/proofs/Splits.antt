-- The equation of the first tie that fails.
use Rattle.std.proofs.Common.{◌≡◌, ℕ, inl, inr, Bool, true, false, cond, ◌⊎◌, List, [], ◌∷◌, ◌++◌, refl, sym, ap, subst, ◌∙◌}
use Rattle.std.specs.Prelude.{◌||◌, flat_map}
use Rattle.souper_widths.specs.declared.rows.Row.{Row}
use Rattle.souper_widths.specs.declared.ties.Tie.{Tie}
use Rattle.souper_widths.specs.Equations.{Equation, equal, at_least_one}
use Rattle.souper_widths.specs.Ties.{is_zero, more_of, side_of, ties_of}

-- a list of no ties, or of one
abbrev IsShort : List Tie → Type 0
IsShort ts = (ts ≡ []) ⊎ ((t : Tie) × (ts ≡ t ∷ []))

short-unless : (b : Bool) (t : Tie) → IsShort (cond b [] (t ∷ []))
short-unless true t = inl refl
short-unless false t = inr (t, refl)

short-ties : (c : ℕ) (r : Row) (e : Equation) → IsShort (ties_of c r e)
short-ties c r (equal x y) = short-unless (is_zero (side_of c (more_of r x y) x) || is_zero (side_of c (more_of r x y) y)) (record { left = side_of c (more_of r x y) x; right = side_of c (more_of r x y) y; more = more_of r x y })
short-ties c r (at_least_one x) = inl refl

-- equations before the one of a tie, that one, and those after it
pub record SplitAt (c : ℕ) (r : Row) (es : List Equation) (front : List Tie) (t : Tie) : Type 0 where
  pub before : List Equation
  pub at : Equation
  pub after : List Equation
  pub here : es ≡ before ++ at ∷ after
  pub ties : flat_map (ties_of c r) before ≡ front
  pub tie : ties_of c r at ≡ t ∷ []

later-split : (c : ℕ) (r : Row) (e : Equation) (es : List Equation) (own front : List Tie) (t : Tie) → ties_of c r e ≡ own → SplitAt c r es front t → SplitAt c r (e ∷ es) (own ++ front) t
later-split c r e es own front t o s = record {
  before = e ∷ s.before;
  at = s.at;
  after = s.after;
  here = ap (λ (z : List Equation). e ∷ z) s.here;
  ties = ap (λ (z : List Tie). z ++ flat_map (ties_of c r) s.before) o ∙ ap (λ (z : List Tie). own ++ z) s.ties;
  tie = s.tie;
}

first-split : (c : ℕ) (r : Row) (e : Equation) (es : List Equation) (t : Tie) → ties_of c r e ≡ t ∷ [] → SplitAt c r (e ∷ es) [] t
first-split c r e es t o = record { before = []; at = e; after = es; here = refl; ties = refl; tie = o }

head-is : (x y : Tie) (xs ys : List Tie) → x ∷ xs ≡ y ∷ ys → x ≡ y
head-is x y xs ys h = cc

tail-is : (x y : Tie) (xs ys : List Tie) → x ∷ xs ≡ y ∷ ys → xs ≡ ys
tail-is x y xs ys h = cc

at-tie : (c : ℕ) (r : Row) (e : Equation) (es : List Equation) (t : Tie) (back : List Tie) (x : Tie) → ties_of c r e ≡ x ∷ [] → ((front : List Tie) → flat_map (ties_of c r) es ≡ front ++ t ∷ back → SplitAt c r es front t)
    → (fs : List Tie) → x ∷ flat_map (ties_of c r) es ≡ fs ++ t ∷ back → SplitAt c r (e ∷ es) fs t
at-tie c r e es t back x o rest [] h = first-split c r e es t (o ∙ ap (λ (z : Tie). z ∷ []) (head-is x t (flat_map (ties_of c r) es) back h))
at-tie c r e es t back x o rest (f ∷ fs) h = subst (λ (z : Tie). SplitAt c r (e ∷ es) (z ∷ fs) t) (head-is x f (flat_map (ties_of c r) es) (fs ++ t ∷ back) h)
    (later-split c r e es (x ∷ []) fs t o (rest fs (tail-is x f (flat_map (ties_of c r) es) (fs ++ t ∷ back) h)))

pub split-at : (c : ℕ) (r : Row) (es : List Equation) (t : Tie) (back : List Tie) (front : List Tie) → flat_map (ties_of c r) es ≡ front ++ t ∷ back → SplitAt c r es front t
split-at c r [] t back [] h = absurd (cc)
split-at c r [] t back (f ∷ front) h = absurd (cc)
split-at c r (e ∷ es) t back front h = elim (short-ties c r e) [
  | inl z ↦ later-split c r e es [] front t z (split-at c r es t back front (sym (ap (λ (o : List Tie). o ++ flat_map (ties_of c r) es) z) ∙ h))
  | inr z ↦ at-tie c r e es t back z.0 z.1 (λ fs k. split-at c r es t back fs k) front (sym (ap (λ (o : List Tie). o ++ flat_map (ties_of c r) es) z.1) ∙ h)
]
