-- Facts about lists that sameness rests on.
use Rattle.std.proofs.Common.{◌≡◌, ℕ, zero, suc, ◌<◌, ◌++◌, ◌⊎◌, inl, inr, length, map, List, [], ◌∷◌, Bool, true, false, cond, refl, sym, ap, ◌∙◌, subst, arith, get_or, append_assoc, append-nil, eq-eqb, ne_eqb}
use Rattle.std.specs.List.{flat_map, filter}
use Rattle.std.proofs.lemmas.Bool.{cases_eq}
use Rattle.std.proofs.lemmas.List.{map-append}
use Rattle.souper_graph.specs.Uses.{Has}
use Rattle.souper_graph.specs.Order.{Distinct}
use Rattle.souper_graph.specs.Sameness.{place}
use Rattle.souper_graph.proofs.Lists.{Has-left, Has-right, Has-cases, Has-none, Has-here, Has-later, Has-head, Has-map, Has-mapped}
use Rattle.souper_graph.proofs.Order.Firsts.{has, with_new, has_tells, has_true, has_false}

pub flat-map : (f : ℕ → ℕ) (p q : ℕ → List ℕ) (us : List ℕ) → ((u : ℕ) → Has us u → q (f u) ≡ map f (p u)) →
    flat_map q (map f us) ≡ map f (flat_map p us)
flat-map f p q [] e = refl
flat-map f p q (x ∷ us) e =
    ap (λ y. y ++ flat_map q (map f us)) (e x (Has-here x us))
    ∙ ap (λ y. map f (p x) ++ y) (flat-map f p q us (λ u a. e u (Has-later x u us a)))
    ∙ sym (map-append f (p x) (flat_map p us))

-- `with_new`

pub with-has : (k xs : List ℕ) (j : ℕ) → Has k j ⊎ Has xs j → Has (with_new k xs) j
unfolding with_new
with-has k [] j h = elim h [ inl a ↦ a | inr b ↦ absurd (Has-none j b) ]
with-has k (x ∷ xs) j h = elim (has_tells k x) [
  | inl t ↦ subst (λ (b : Bool). Has (with_new (cond b k (k ++ x ∷ [])) xs) j) (sym t.1) (with-has k xs j (elim h [
    | inl a ↦ inl a
    | inr b ↦ elim (Has-head x j xs b) [ inl e ↦ inl (subst (λ (z : ℕ). Has k z) e t.0) | inr c ↦ inr c ]
  ]))
  | inr t ↦ subst (λ (b : Bool). Has (with_new (cond b k (k ++ x ∷ [])) xs) j) (sym t.1) (with-has (k ++ x ∷ []) xs j (elim h [
    | inl a ↦ inl (Has-left k (x ∷ []) j a)
    | inr b ↦ elim (Has-head x j xs b) [
      | inl e ↦ inl (Has-right k (x ∷ []) j (subst (λ (z : ℕ). Has (x ∷ []) z) e (Has-here x [])))
      | inr c ↦ inr c
    ]
  ]))
]

pub with-from : (k xs : List ℕ) (j : ℕ) → Has (with_new k xs) j → Has k j ⊎ Has xs j
unfolding with_new
with-from k [] j h = inl h
with-from k (x ∷ xs) j h = elim (has_tells k x) [
  | inl t ↦ elim (with-from k xs j (subst (λ (b : Bool). Has (with_new (cond b k (k ++ x ∷ [])) xs) j) t.1 h)) [
    | inl a ↦ inl a
    | inr b ↦ inr (Has-later x j xs b)
  ]
  | inr t ↦ elim (with-from (k ++ x ∷ []) xs j (subst (λ (b : Bool). Has (with_new (cond b k (k ++ x ∷ [])) xs) j) t.1 h)) [
    | inl a ↦ elim (Has-cases k (x ∷ []) j a) [
      | inl c ↦ inl c
      | inr d ↦ elim (Has-head x j [] d) [
        | inl e ↦ inr (subst (λ (z : ℕ). Has (x ∷ xs) z) e (Has-here x xs))
        | inr n ↦ absurd (Has-none j n)
      ]
    ]
    | inr b ↦ inr (Has-later x j xs b)
  ]
]

Distinct-push : (xs : List ℕ) (i : ℕ) → Distinct xs → (Has xs i → ⊥) → Distinct (xs ++ i ∷ [])
Distinct-push [] i d h = (Has-none i, tt)
Distinct-push (x ∷ xs) i d h = (
  (λ a. elim (Has-cases xs (i ∷ []) x a) [
    | inl b ↦ d.0 b
    | inr b ↦ elim (Has-head i x [] b) [
      | inl e ↦ h (subst (λ (z : ℕ). Has (x ∷ xs) z) (sym e) (Has-here x xs))
      | inr n ↦ absurd (Has-none x n)
    ]
  ]),
  Distinct-push xs i d.1 (λ a. h (Has-later x i xs a)),
)

pub with-distinct : (k xs : List ℕ) → Distinct k → Distinct (with_new k xs)
unfolding with_new
with-distinct k [] d = d
with-distinct k (x ∷ xs) d = elim (has_tells k x) [
  | inl t ↦ subst (λ (b : Bool). Distinct (with_new (cond b k (k ++ x ∷ [])) xs)) (sym t.1) (with-distinct k xs d)
  | inr t ↦ subst (λ (b : Bool). Distinct (with_new (cond b k (k ++ x ∷ [])) xs)) (sym t.1) (with-distinct (k ++ x ∷ []) xs (Distinct-push k x d t.0))
]

-- nothing new is dropped from a list in which nothing occurs twice
pub with-all : (k xs : List ℕ) → Distinct xs → ((j : ℕ) → Has k j → Has xs j → ⊥) → with_new k xs ≡ k ++ xs
unfolding with_new
with-all k [] d h = sym (append-nil k)
with-all k (x ∷ xs) d h =
    ap (λ (b : Bool). with_new (cond b k (k ++ x ∷ [])) xs) (has_false k x (λ a. h x a (Has-here x xs)))
    ∙ with-all (k ++ x ∷ []) xs d.1 (λ j a b. elim (Has-cases k (x ∷ []) j a) [
      | inl c ↦ h j c (Has-later x j xs b)
      | inr c ↦ elim (Has-head x j [] c) [ inl e ↦ d.0 (subst (λ (z : ℕ). Has xs z) (sym e) b) | inr n ↦ absurd (Has-none j n) ]
    ])
    ∙ append_assoc k (x ∷ []) xs

-- a map that is one-to-one on what the lists have
has-map : (f : ℕ → ℕ) (k : List ℕ) (x : ℕ) → ((i : ℕ) → Has k i → f i ≡ f x → i ≡ x) → has (map f k) (f x) ≡ has k x
has-map f k x e = elim (has_tells k x) [
  | inl t ↦ has_true (map f k) (f x) (Has-map f k x t.0) ∙ sym t.1
  | inr t ↦ has_false (map f k) (f x) (λ a. let r = Has-mapped f k (f x) a in
      t.0 (subst (λ (z : ℕ). Has k z) (e r.0 r.1 r.2) r.1)) ∙ sym t.1
]

pub with-map : (f : ℕ → ℕ) (S : ℕ → Type 0) (k xs : List ℕ) → ((i : ℕ) → Has k i → S i) → ((i : ℕ) → Has xs i → S i) →
    ((i j : ℕ) → S i → S j → f i ≡ f j → i ≡ j) → with_new (map f k) (map f xs) ≡ map f (with_new k xs)
unfolding with_new
with-map f S k [] a b e = refl
with-map f S k (x ∷ xs) a b e =
    let here : S x = b x (Has-here x xs) in
    let rest : (i : ℕ) → Has xs i → S i = λ i h. b i (Has-later x i xs h) in
    let same : has (map f k) (f x) ≡ has k x = has-map f k x (λ i h q. e i x (a i h) here q) in
    elim (has_tells k x) [
      | inl t ↦
          ap (λ (y : Bool). with_new (cond y (map f k) (map f k ++ f x ∷ [])) (map f xs)) (same ∙ t.1)
          ∙ with-map f S k xs a rest e
          ∙ ap (λ (y : Bool). map f (with_new (cond y k (k ++ x ∷ [])) xs)) (sym t.1)
      | inr t ↦
          ap (λ (y : Bool). with_new (cond y (map f k) (map f k ++ f x ∷ [])) (map f xs)) (same ∙ t.1)
          ∙ ap (λ z. with_new z (map f xs)) (sym (map-append f k (x ∷ [])))
          ∙ with-map f S (k ++ x ∷ []) xs (λ i h. elim (Has-cases k (x ∷ []) i h) [
            | inl c ↦ a i c
            | inr c ↦ elim (Has-head x i [] c) [ inl q ↦ subst S q here | inr n ↦ absurd (Has-none i n) ]
          ]) rest e
          ∙ ap (λ (y : Bool). map f (with_new (cond y k (k ++ x ∷ [])) xs)) (sym t.1)
    ]

-- `filter`

pub filter-none : (p : ℕ → Bool) (xs : List ℕ) → ((j : ℕ) → Has xs j → p j ≡ false) → filter p xs ≡ []
filter-none p [] h = refl
filter-none p (x ∷ xs) h =
    ap (λ (b : Bool). cond b (x ∷ filter p xs) (filter p xs)) (h x (Has-here x xs)) ∙ filter-none p xs (λ j a. h j (Has-later x j xs a))

pub filter-map : (f : ℕ → ℕ) (p q : ℕ → Bool) (xs : List ℕ) → ((i : ℕ) → Has xs i → q (f i) ≡ p i) → filter q (map f xs) ≡ map f (filter p xs)
filter-map f p q [] h = refl
filter-map f p q (x ∷ xs) h =
    let ih = filter-map f p q xs (λ i a. h i (Has-later x i xs a)) in
    ap (λ (b : Bool). cond b (f x ∷ filter q (map f xs)) (filter q (map f xs))) (h x (Has-here x xs))
    ∙ ap (λ z. cond (p x) (f x ∷ z) z) ih ∙ under (p x)
  where
    under : (b : Bool) → cond b (f x ∷ map f (filter p xs)) (map f (filter p xs)) ≡ map f (cond b (x ∷ filter p xs) (filter p xs))
    under true = refl
    under false = refl

pub filter-join : (p : ℕ → Bool) (xs ys : List ℕ) → filter p (xs ++ ys) ≡ filter p xs ++ filter p ys
filter-join p [] ys = refl
filter-join p (x ∷ xs) ys = ap (λ z. cond (p x) (x ∷ z) z) (filter-join p xs ys) ∙ under (p x)
  where
    under : (b : Bool) → cond b (x ∷ (filter p xs ++ filter p ys)) (filter p xs ++ filter p ys) ≡ cond b (x ∷ filter p xs) (filter p xs) ++ filter p ys
    under true = refl
    under false = refl

Has-filter : (p : ℕ → Bool) (xs : List ℕ) (i : ℕ) → p i ≡ true → Has xs i → Has (filter p xs) i
Has-filter p [] i e h = h
Has-filter p (x ∷ xs) i e h = elim (Has-head x i xs h) [
  | inl q ↦ subst (λ (b : Bool). Has (cond b (x ∷ filter p xs) (filter p xs)) i) (sym (ap p q ∙ e))
      (subst (λ (z : ℕ). Has (x ∷ filter p xs) z) q (Has-here x (filter p xs)))
  | inr a ↦ under (p x) (Has-filter p xs i e a)
]
  where
    under : (b : Bool) → Has (filter p xs) i → Has (cond b (x ∷ filter p xs) (filter p xs)) i
    under true h = Has-later x i (filter p xs) h
    under false h = h

pub Has-filtered : (p : ℕ → Bool) (xs : List ℕ) (i : ℕ) → Has (filter p xs) i → Has xs i
Has-filtered p [] i h = h
Has-filtered p (x ∷ xs) i h = under (p x) (λ a. Has-later x i xs (Has-filtered p xs i a)) h
  where
    under : (b : Bool) → (Has (filter p xs) i → Has (x ∷ xs) i) → Has (cond b (x ∷ filter p xs) (filter p xs)) i → Has (x ∷ xs) i
    under true k h = elim (Has-head x i (filter p xs) h) [ inl e ↦ subst (λ (z : ℕ). Has (x ∷ xs) z) e (Has-here x xs) | inr a ↦ k a ]
    under false k h = k h

has-filter : (p : ℕ → Bool) (k : List ℕ) (x : ℕ) → p x ≡ true → has (filter p k) x ≡ has k x
has-filter p k x e = elim (has_tells k x) [
  | inl t ↦ has_true (filter p k) x (Has-filter p k x e t.0) ∙ sym t.1
  | inr t ↦ has_false (filter p k) x (λ a. t.0 (Has-filtered p k x a)) ∙ sym t.1
]

filter-one : (p : ℕ → Bool) (k : List ℕ) (x : ℕ) (b : Bool) → p x ≡ b → filter p (k ++ x ∷ []) ≡ cond b (filter p k ++ x ∷ []) (filter p k)
filter-one p k x true e = filter-join p k (x ∷ []) ∙ ap (λ (b : Bool). filter p k ++ cond b (x ∷ []) []) e
filter-one p k x false e = filter-join p k (x ∷ []) ∙ ap (λ (b : Bool). filter p k ++ cond b (x ∷ []) []) e ∙ append-nil (filter p k)

pub filter-with : (p : ℕ → Bool) (k xs : List ℕ) → filter p (with_new k xs) ≡ with_new (filter p k) (filter p xs)
unfolding with_new
filter-with p k [] = refl
filter-with p k (x ∷ xs) = elim (Bool_tells (p x)) [
  | inl y ↦ filter-with p (cond (has k x) k (k ++ x ∷ [])) xs
      ∙ ap (λ z. with_new z (filter p xs)) (kept_yes (has k x) y)
      ∙ ap (λ (b : Bool). with_new (cond b (filter p k) (filter p k ++ x ∷ [])) (filter p xs)) (sym (has-filter p k x y))
      ∙ ap (λ (b : Bool). with_new (filter p k) (cond b (x ∷ filter p xs) (filter p xs))) (sym y)
  | inr n ↦ filter-with p (cond (has k x) k (k ++ x ∷ [])) xs
      ∙ ap (λ z. with_new z (filter p xs)) (kept_no (has k x) n)
      ∙ ap (λ (b : Bool). with_new (filter p k) (cond b (x ∷ filter p xs) (filter p xs))) (sym n)
]
  where
    Bool_tells : (b : Bool) → (b ≡ true) ⊎ (b ≡ false)
    Bool_tells true = inl refl
    Bool_tells false = inr refl

    kept_yes : (b : Bool) → p x ≡ true → filter p (cond b k (k ++ x ∷ [])) ≡ cond b (filter p k) (filter p k ++ x ∷ [])
    kept_yes true y = refl
    kept_yes false y = filter-one p k x true y

    kept_no : (b : Bool) → p x ≡ false → filter p (cond b k (k ++ x ∷ [])) ≡ filter p k
    kept_no true n = refl
    kept_no false n = filter-one p k x false n

-- `place`

pub place-here : (i : ℕ) (xs : List ℕ) → place (i ∷ xs) i ≡ 0
place-here i xs = ap (λ (b : Bool). cond b 0 (suc (place xs i))) (eq-eqb i i refl)

pub place-later : (x i : ℕ) (xs : List ℕ) → (x ≡ i → ⊥) → place (x ∷ xs) i ≡ suc (place xs i)
place-later x i xs h = ap (λ (b : Bool). cond b 0 (suc (place xs i))) (ne_eqb x i h)

pub place-inside : (xs : List ℕ) (i : ℕ) → Has xs i → place xs i < length xs
place-inside [] i h = absurd (Has-none i h)
place-inside (x ∷ xs) i h = elim (cases_eq x i) [
  | inl e ↦ (let q : place (x ∷ xs) i ≡ 0 = ap (λ z. place (z ∷ xs) i) e ∙ place-here i xs in omega arith)
  | inr ne ↦ elim (Has-head x i xs h) [
    | inl e ↦ absurd (ne e)
    | inr a ↦ (let q = place-later x i xs ne in let r = place-inside xs i a in omega arith)
  ]
]

pub at-place : (xs : List ℕ) (i d : ℕ) → Has xs i → get_or xs (place xs i) d ≡ i
at-place [] i d h = absurd (Has-none i h)
at-place (x ∷ xs) i d h = elim (cases_eq x i) [
  | inl e ↦ ap (λ z. get_or (x ∷ xs) z d) (ap (λ z. place (z ∷ xs) i) e ∙ place-here i xs) ∙ e
  | inr ne ↦ elim (Has-head x i xs h) [
    | inl e ↦ absurd (ne e)
    | inr a ↦ ap (λ z. get_or (x ∷ xs) z d) (place-later x i xs ne) ∙ at-place xs i d a
  ]
]

pub Has-at : (xs : List ℕ) (k d : ℕ) → k < length xs → Has xs (get_or xs k d)
Has-at [] k d h = absurd (omega arith)
Has-at (x ∷ xs) zero d h = Has-here x xs
Has-at (x ∷ xs) (suc k) d h = Has-later x (get_or xs k d) xs (Has-at xs k d (omega arith))

pub place-at : (xs : List ℕ) (k d : ℕ) → Distinct xs → k < length xs → place xs (get_or xs k d) ≡ k
place-at [] k d u h = absurd (omega arith)
place-at (x ∷ xs) zero d u h = place-here x xs
place-at (x ∷ xs) (suc k) d u h =
    let l : k < length xs = omega arith in
    place-later x (get_or xs k d) xs (λ e. u.0 (subst (λ (z : ℕ). Has xs z) (sym e) (Has-at xs k d l))) ∙ ap suc (place-at xs k d u.1 l)

pub place-map : (f : ℕ → ℕ) (xs : List ℕ) (i : ℕ) → ((j : ℕ) → Has xs j → f j ≡ f i → j ≡ i) → place (map f xs) (f i) ≡ place xs i
place-map f [] i e = refl
place-map f (x ∷ xs) i e = elim (cases_eq x i) [
  | inl q ↦ ap (λ z. place (f z ∷ map f xs) (f i)) q ∙ place-here (f i) (map f xs) ∙ sym (ap (λ z. place (z ∷ xs) i) q ∙ place-here i xs)
  | inr ne ↦ place-later (f x) (f i) (map f xs) (λ q. ne (e x (Has-here x xs) q))
      ∙ ap suc (place-map f xs i (λ j a q. e j (Has-later x j xs a) q)) ∙ sym (place-later x i xs ne)
]

pub place-joined : (xs : List ℕ) (i : ℕ) (ys : List ℕ) → (Has xs i → ⊥) → place (xs ++ i ∷ ys) i ≡ length xs
place-joined [] i ys h = place-here i ys
place-joined (x ∷ xs) i ys h =
    place-later x i (xs ++ i ∷ ys) (λ e. h (subst (λ (z : ℕ). Has (x ∷ xs) z) e (Has-here x xs)))
    ∙ ap suc (place-joined xs i ys (λ a. h (Has-later x i xs a)))

pub place-front : (xs ys : List ℕ) (i : ℕ) → place (xs ++ ys) i < length xs → Has xs i
place-front [] ys i l = absurd (omega arith)
place-front (x ∷ xs) ys i l = elim (cases_eq x i) [
  | inl e ↦ subst (λ (z : ℕ). Has (x ∷ xs) z) e (Has-here x xs)
  | inr ne ↦ Has-later x i xs (place-front xs ys i (let q = place-later x i (xs ++ ys) ne in omega arith))
]

-- a number of the first of two joined lists
pub place-left : (xs ys : List ℕ) (i : ℕ) → Has xs i → place (xs ++ ys) i ≡ place xs i
place-left [] ys i h = absurd (Has-none i h)
place-left (x ∷ xs) ys i h = elim (cases_eq x i) [
  | inl e ↦ ap (λ z. place (z ∷ (xs ++ ys)) i) e ∙ place-here i (xs ++ ys) ∙ sym (ap (λ z. place (z ∷ xs) i) e ∙ place-here i xs)
  | inr ne ↦ elim (Has-head x i xs h) [
    | inl e ↦ absurd (ne e)
    | inr a ↦ place-later x i (xs ++ ys) ne ∙ ap suc (place-left xs ys i a) ∙ sym (place-later x i xs ne)
  ]
]
