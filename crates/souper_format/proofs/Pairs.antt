-- Two lists, pair by pair.
use Rattle.std.proofs.Common.{◌≡◌, ℕ, zero, suc, ◌+◌, ◌<◌, length, map, take, get_or, List, [], ◌∷◌, sym, subst, arith}
use Rattle.std.specs.List.{AllZip}

-- one related pair more
pub related_more : {A B : Type 0} (R : B → B → Type 0) (f : A → B) (xs ys : List A) (n m : ℕ) (x y : A)
    → n < length xs → n < length ys → m ≡ n + 1 → x ≡ get_or xs n x → y ≡ get_or ys n y → R (f x) (f y)
    → AllZip R (map f (take n xs)) (map f (take n ys)) → AllZip R (map f (take m xs)) (map f (take m ys))
related_more R f [] ys n m x y lx ly k ex ey r h = absurd (omega arith)
related_more R f (a ∷ xs) [] n m x y lx ly k ex ey r h = absurd (omega arith)
related_more R f (a ∷ xs) (b ∷ ys) n zero x y lx ly k ex ey r h = absurd (omega arith)
related_more R f (a ∷ xs) (b ∷ ys) zero (suc zero) x y lx ly k ex ey r h =
    (subst (λ z. R (f z) (f b)) ex (subst (λ z. R (f x) (f z)) ey r), tt)
related_more R f (a ∷ xs) (b ∷ ys) zero (suc (suc m)) x y lx ly k ex ey r h = absurd (omega arith)
related_more R f (a ∷ xs) (b ∷ ys) (suc n) (suc m) x y lx ly k ex ey r h =
    (h.0, related_more R f xs ys n m x y (omega arith) (omega arith) (omega arith) ex ey r h.1)

-- each pair is related
pub related_at : {A B : Type 0} (R : B → B → Type 0) (f : A → B) (xs ys : List A) (n : ℕ) (x y : A)
    → n < length xs → n < length ys → x ≡ get_or xs n x → y ≡ get_or ys n y → AllZip R (map f xs) (map f ys) → R (f x) (f y)
related_at R f [] ys n x y lx ly ex ey h = absurd (omega arith)
related_at R f (a ∷ xs) [] n x y lx ly ex ey h = absurd (omega arith)
related_at R f (a ∷ xs) (b ∷ ys) zero x y lx ly ex ey h = subst (λ z. R (f z) (f y)) (sym ex) (subst (λ z. R (f a) (f z)) (sym ey) h.0)
related_at R f (a ∷ xs) (b ∷ ys) (suc n) x y lx ly ex ey h = related_at R f xs ys n x y (omega arith) (omega arith) ex ey h.1
