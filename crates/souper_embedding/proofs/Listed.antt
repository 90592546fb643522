-- The elements that a loop has passed.
use Rattle.std.proofs.Common.{◌≡◌, ℕ, zero, suc, ◌+◌, ◌<◌, ◌⊎◌, inl, inr, length, map, take, get_or, List, [], ◌∷◌, sym, ap, ◌∙◌, subst, arith}
use Rattle.souper_graph.specs.Uses.{Has}

pub has-item : {X Y : Type 0} (v : X → Y) (xs : List X) (k : ℕ) (x : X) → k < length xs → x ≡ get_or xs k x → Has (map v xs) (v x)
has-item v [] k x l e = absurd (omega arith)
has-item v (y ∷ ys) zero x l e = inl (ap v (sym e))
has-item v (y ∷ ys) (suc k) x l e = inr (has-item v ys k x (omega arith) e)

no-more : {X Y : Type 0} (v : X → Y) (zs : List X) (y : Y) → Has (map v (take 0 zs)) y → ⊥
no-more v [] y h = h
no-more v (z ∷ zs) y h = h

more-suc : {X Y : Type 0} (v : X → Y) (xs : List X) (k : ℕ) (x : X) (y : Y) → k < length xs → x ≡ get_or xs k x → Has (map v (take (suc k) xs)) y → Has (map v (take k xs)) y ⊎ (v x ≡ y)
more-suc v [] k x y l e h = absurd (omega arith)
more-suc v (z ∷ zs) zero x y l e (inl s) = inr (ap v e ∙ s)
more-suc v (z ∷ zs) zero x y l e (inr h) = absurd (no-more v zs y h)
more-suc v (z ∷ zs) (suc k) x y l e (inl s) = inl (inl s)
more-suc v (z ∷ zs) (suc k) x y l e (inr h) = elim (more-suc v zs k x y (omega arith) e h) [ inl a ↦ inl (inr a) | inr b ↦ inr b ]

-- one more element
pub more-cases : {X Y : Type 0} (v : X → Y) (xs : List X) (k : ℕ) (x : X) (y : Y) → k < length xs → x ≡ get_or xs k x → Has (map v (take (k + 1) xs)) y → Has (map v (take k xs)) y ⊎ (v x ≡ y)
more-cases v xs k x y l e h = let s : k + 1 ≡ suc k = omega arith in more-suc v xs k x y l e (subst (λ n. Has (map v (take n xs)) y) s h)
