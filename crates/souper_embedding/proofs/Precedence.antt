-- Lists of numbers of which one precedes another.
use Rattle.std.proofs.Common.{◌≡◌, ℕ, ◌<◌, ◌++◌, inl, inr, List, [], ◌∷◌, refl, ap}
use Rattle.souper_embedding.specs.Images.{Precedes}

pub precedes-more : (ds es rest : List ℕ) → Precedes ds es → Precedes (ds ++ rest) es
precedes-more [] es rest h = absurd h
precedes-more (d ∷ ds) [] rest h = absurd h
precedes-more (d ∷ ds) (e ∷ es) rest (inl l) = inl l
precedes-more (d ∷ ds) (e ∷ es) rest (inr h) = inr (h.0, precedes-more ds es rest h.1)

pub precedes-longer : (ds es rest : List ℕ) → Precedes ds es → Precedes ds (es ++ rest)
precedes-longer [] es rest h = absurd h
precedes-longer (d ∷ ds) [] rest h = absurd h
precedes-longer (d ∷ ds) (e ∷ es) rest (inl l) = inl l
precedes-longer (d ∷ ds) (e ∷ es) rest (inr h) = inr (h.0, precedes-longer ds es rest h.1)

pub precedes-last : (xs : List ℕ) (a b : ℕ) → a < b → Precedes (xs ++ a ∷ []) (xs ++ b ∷ [])
precedes-last [] a b l = inl l
precedes-last (x ∷ xs) a b l = inr (refl, precedes-last xs a b l)

pub assoc : (xs ys zs : List ℕ) → (xs ++ ys) ++ zs ≡ xs ++ (ys ++ zs)
assoc [] ys zs = refl
assoc (x ∷ xs) ys zs = ap (λ z. x ∷ z) (assoc xs ys zs)
