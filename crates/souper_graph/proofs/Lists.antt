-- Lists of positions: their elements, and that none occurs twice.
use Rattle.std.proofs.Common.{◌≡◌, ℕ, ◌+◌, ◌++◌, ◌⊎◌, inl, inr, length, map, List, [], ◌∷◌, refl, sym, ap, subst, arith}
use Rattle.souper_graph.specs.Values.{PlainStatement}
use Rattle.souper_graph.specs.Uses.{Has, used_at}
use Rattle.souper_graph.specs.Order.{Distinct}
use Rattle.souper_graph.specs.PrintOrder.{cost}

pub Has-left : {A : Type 0} (xs ys : List A) (i : A) → Has xs i → Has (xs ++ ys) i
Has-left [] ys i h = absurd h
Has-left (x ∷ xs) ys i (inl e) = inl e
Has-left (x ∷ xs) ys i (inr h) = inr (Has-left xs ys i h)

pub Has-right : {A : Type 0} (xs ys : List A) (i : A) → Has ys i → Has (xs ++ ys) i
Has-right [] ys i h = h
Has-right (x ∷ xs) ys i h = inr (Has-right xs ys i h)

pub Has-cases : {A : Type 0} (xs ys : List A) (i : A) → Has (xs ++ ys) i → Has xs i ⊎ Has ys i
Has-cases [] ys i h = inr h
Has-cases (x ∷ xs) ys i (inl e) = inl (inl e)
Has-cases (x ∷ xs) ys i (inr h) = elim (Has-cases xs ys i h) [ inl a ↦ inl (inr a) | inr b ↦ inr b ]

pub Has-none : {A : Type 0} (i : A) → Has [] i → ⊥
Has-none i h = h

pub Has-here : {A : Type 0} (i : A) (xs : List A) → Has (i ∷ xs) i
Has-here i xs = inl refl

pub Has-later : {A : Type 0} (x i : A) (xs : List A) → Has xs i → Has (x ∷ xs) i
Has-later x i xs h = inr h

pub Has-head : {A : Type 0} (x i : A) (xs : List A) → Has (x ∷ xs) i → (x ≡ i) ⊎ Has xs i
Has-head x i xs h = h

-- one more in the middle
pub Has-insert : {A : Type 0} (xs ys : List A) (x i : A) → Has (xs ++ ys) i → Has (xs ++ x ∷ ys) i
Has-insert xs ys x i h =
    elim (Has-cases xs ys i h) [ inl a ↦ Has-left xs (x ∷ ys) i a | inr b ↦ Has-right xs (x ∷ ys) i (Has-later x i ys b) ]

pub Has-inserted : {A : Type 0} (xs ys : List A) (x i : A) → Has (xs ++ x ∷ ys) i → (x ≡ i) ⊎ Has (xs ++ ys) i
Has-inserted xs ys x i h =
    elim (Has-cases xs (x ∷ ys) i h) [
      | inl a ↦ inr (Has-left xs ys i a)
      | inr b ↦ elim (Has-head x i ys b) [ inl e ↦ inl e | inr c ↦ inr (Has-right xs ys i c) ]
    ]

-- the images of what a list has
pub Has-map : {A B : Type 0} (f : A → B) (xs : List A) (x : A) → Has xs x → Has (map f xs) (f x)
Has-map f [] x h = absurd h
Has-map f (y ∷ ys) x (inl e) = inl (ap f e)
Has-map f (y ∷ ys) x (inr h) = inr (Has-map f ys x h)

pub Has-mapped : {A B : Type 0} (f : A → B) (xs : List A) (y : B) → Has (map f xs) y → (x : A) × Has xs x × (f x ≡ y)
Has-mapped f [] y h = absurd h
Has-mapped f (x ∷ xs) y (inl e) = (x, inl refl, e)
Has-mapped f (x ∷ xs) y (inr h) = let r = Has-mapped f xs y h in (r.0, inr r.1, r.2)

pub Distinct-insert : (xs ys : List ℕ) (i : ℕ) → Distinct (xs ++ ys) → (Has (xs ++ ys) i → ⊥) → Distinct (xs ++ i ∷ ys)
Distinct-insert [] ys i d h = (h, d)
Distinct-insert (x ∷ xs) ys i d h = (
  (λ a. elim (Has-inserted xs ys i x a) [
    | inl e ↦ h (subst (λ (z : ℕ). Has (x ∷ (xs ++ ys)) z) (sym e) (Has-here x (xs ++ ys)))
    | inr b ↦ d.0 b
  ]),
  Distinct-insert xs ys i d.1 (λ a. h (Has-later x i (xs ++ ys) a)),
)

pub cost-insert : (g : List PlainStatement) (xs ys : List ℕ) (i : ℕ) → cost g (xs ++ i ∷ ys) ≡ 1 + length (used_at g i) + cost g (xs ++ ys)
cost-insert g [] ys i = refl
cost-insert g (x ∷ xs) ys i = omega (arith, cost-insert g xs ys i)
