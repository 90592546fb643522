-- First occurrences, gathered one by one.
use Rattle.std.proofs.Common.{◌≡◌, ℕ, ◌++◌, ◌⊎◌, inl, inr, List, [], ◌∷◌, Bool, true, false, cond, not, refl, sym, ap, ◌∙◌, subst, append_assoc, append-nil, eq-eqb, ne_eqb, nat_eq, ◌||◌}
use Rattle.std.specs.List.{flat_map, filter}
use Rattle.std.proofs.lemmas.Bool.{cases_eq}
use Rattle.souper_graph.specs.Values.{PlainStatement}
use Rattle.souper_graph.specs.Uses.{Has}
use Rattle.souper_graph.specs.Order.{firsts, unfolding_of, order_of_walks}
use Rattle.souper_graph.proofs.Lists.{Has-left, Has-right, Has-cases, Has-none, Has-here, Has-later, Has-head}

-- whether the list has the number
unfoldable pub has : List ℕ → ℕ → Bool
has [] i = false
has (x ∷ xs) i = nat_eq x i || has xs i

pub has_tells : (xs : List ℕ) (i : ℕ) → (Has xs i × (has xs i ≡ true)) ⊎ ((Has xs i → ⊥) × (has xs i ≡ false))
unfolding has
has_tells [] i = inr (Has-none i, refl)
has_tells (x ∷ xs) i = elim (cases_eq x i) [
  | inl e ↦ inl (subst (λ (z : ℕ). Has (x ∷ xs) z) e (Has-here x xs), ap (λ b. b || has xs i) (eq-eqb x i e))
  | inr ne ↦ elim (has_tells xs i) [
    | inl a ↦ inl (Has-later x i xs a.0, ap (λ b. b || has xs i) (ne_eqb x i ne) ∙ a.1)
    | inr a ↦ inr ((λ h. elim (Has-head x i xs h) [ inl e ↦ ne e | inr b ↦ a.0 b ]), ap (λ b. b || has xs i) (ne_eqb x i ne) ∙ a.1)
  ]
]

pub has_true : (xs : List ℕ) (i : ℕ) → Has xs i → has xs i ≡ true
has_true xs i h = elim (has_tells xs i) [ inl a ↦ a.1 | inr a ↦ absurd (a.0 h) ]

pub has_false : (xs : List ℕ) (i : ℕ) → (Has xs i → ⊥) → has xs i ≡ false
has_false xs i h = elim (has_tells xs i) [ inl a ↦ absurd (h a.0) | inr a ↦ a.1 ]

-- a list, and after it the first occurrences of what it lacks
unfoldable pub with_new : List ℕ → List ℕ → List ℕ
with_new kept [] = kept
with_new kept (x ∷ xs) = with_new (cond (has kept x) kept (kept ++ x ∷ [])) xs

abbrev pub gathered : List PlainStatement → List ℕ → List ℕ
gathered g w = with_new [] (flat_map (unfolding_of g) w)

-- one filter after another
filter-twice : (p q r : ℕ → Bool) (xs : List ℕ) → ((y : ℕ) → r y ≡ cond (q y) (p y) false) → filter p (filter q xs) ≡ filter r xs
filter-twice p q r [] e = refl
filter-twice p q r (x ∷ xs) e =
    under (q x) ∙ ap (λ z. cond (cond (q x) (p x) false) (x ∷ z) z) (filter-twice p q r xs e)
    ∙ ap (λ (b : Bool). cond b (x ∷ filter r xs) (filter r xs)) (sym (e x))
  where
    under : (b : Bool) → filter p (cond b (x ∷ filter q xs) (filter q xs)) ≡ cond (cond b (p x) false) (x ∷ filter p (filter q xs)) (filter p (filter q xs))
    under true = refl
    under false = refl

-- not in the list with x at its end, and not in the list and not x
lacks-push : (k : List ℕ) (x y : ℕ) → not (has (k ++ x ∷ []) y) ≡ cond (not (nat_eq x y)) (not (has k y)) false
lacks-push k x y = elim (cases_eq x y) [
  | inl e ↦ ap not (has_true (k ++ x ∷ []) y (Has-right k (x ∷ []) y (subst (λ (z : ℕ). Has (x ∷ []) z) e (Has-here x []))))
      ∙ sym (ap (λ (b : Bool). cond (not b) (not (has k y)) false) (eq-eqb x y e))
  | inr ne ↦ elim (has_tells k y) [
    | inl t ↦ ap not (has_true (k ++ x ∷ []) y (Has-left k (x ∷ []) y t.0))
        ∙ sym (ap (λ (b : Bool). cond (not b) (not (has k y)) false) (ne_eqb x y ne) ∙ ap not t.1)
    | inr t ↦ ap not (has_false (k ++ x ∷ []) y (λ h. elim (Has-cases k (x ∷ []) y h) [
      | inl a ↦ t.0 a
      | inr a ↦ elim (Has-head x y [] a) [ inl e ↦ ne e | inr n ↦ Has-none y n ]
    ]))
        ∙ sym (ap (λ (b : Bool). cond (not b) (not (has k y)) false) (ne_eqb x y ne) ∙ ap not t.1)
  ]
]

lacks-known : (k : List ℕ) (x y : ℕ) → Has k x → not (has k y) ≡ cond (not (nat_eq x y)) (not (has k y)) false
lacks-known k x y h = elim (cases_eq x y) [
  | inl e ↦ ap not (has_true k y (subst (λ (z : ℕ). Has k z) e h)) ∙ sym (ap (λ (b : Bool). cond (not b) (not (has k y)) false) (eq-eqb x y e))
  | inr ne ↦ sym (ap (λ (b : Bool). cond (not b) (not (has k y)) false) (ne_eqb x y ne))
]

with-firsts : (k xs : List ℕ) → with_new k xs ≡ k ++ filter (λ y. not (has k y)) (firsts xs)
unfolding with_new
with-firsts k [] = sym (append-nil k)
with-firsts k (x ∷ xs) =
    let F = firsts xs in
    let G = filter (λ y. not (nat_eq x y)) F in
    let H = filter (λ y. not (has k y)) G in
    elim (has_tells k x) [
      | inl t ↦ ap (λ (b : Bool). with_new (cond b k (k ++ x ∷ [])) xs) t.1
          ∙ with-firsts k xs
          ∙ ap (λ z. k ++ z) (sym (filter-twice (λ y. not (has k y)) (λ y. not (nat_eq x y)) (λ y. not (has k y)) F (λ y. lacks-known k x y t.0)))
          ∙ ap (λ (b : Bool). k ++ cond (not b) (x ∷ H) H) (sym t.1)
      | inr t ↦ ap (λ (b : Bool). with_new (cond b k (k ++ x ∷ [])) xs) t.1
          ∙ with-firsts (k ++ x ∷ []) xs
          ∙ append_assoc k (x ∷ []) (filter (λ y. not (has (k ++ x ∷ []) y)) F)
          ∙ ap (λ z. k ++ x ∷ z) (sym (filter-twice (λ y. not (has k y)) (λ y. not (nat_eq x y)) (λ y. not (has (k ++ x ∷ []) y)) F (lacks-push k x)))
          ∙ ap (λ (b : Bool). k ++ cond (not b) (x ∷ H) H) (sym t.1)
    ]

filter-every : (xs : List ℕ) → filter (λ y. true) xs ≡ xs
filter-every [] = refl
filter-every (x ∷ xs) = ap (λ z. x ∷ z) (filter-every xs)

firsts-is : (xs : List ℕ) → firsts xs ≡ with_new [] xs
unfolding has
firsts-is xs = sym (with-firsts [] xs ∙ filter-every (firsts xs))

pub printed-is : (g : List PlainStatement) (w : List ℕ) → order_of_walks g w ≡ gathered g w
printed-is g w = firsts-is (flat_map (unfolding_of g) w)
