-- The path conditions of a query, of equal ones the first: one more position.
use Rattle.std.proofs.Common.{◌≡◌, ℕ, zero, suc, ◌+◌, ◌<◌, ◌≤◌, ◌++◌, ◌⊎◌, inl, inr, length, take, get_or, List, [], ◌∷◌, Some, true, false, refl, ap, ◌∙◌, subst, arith}
use Rattle.std.specs.Prelude.{slice_get, IsTrue}
use Rattle.std.proofs.lemmas.Option.{same_Some}
use Rattle.std.proofs.lemmas.Bool.{cases_order}
use Rattle.souper_graph.specs.Values.{PlainStatement}
use Rattle.souper_graph.specs.Uses.{Has, is_condition}
use Rattle.souper_graph.proofs.Lists.{Has-left, Has-right, Has-cases}
use Rattle.souper_embedding.specs.Given.{IsGivenAt, AreGivenTo}
use Rattle.souper_embedding.specs.Images.{IsFirstOfEqual}
use Rattle.souper_embedding.proofs.Searching.{has-at}

pub given-none : (qs : List PlainStatement) → AreGivenTo qs 0 []
given-none qs = record {
  each = λ d m. absurd m;
  first = λ d m. absurd m;
  covers = λ d s l. absurd (omega arith);
  ascending = λ a b x y e. absurd (cc);
}

-- a position at or before the last one
last-cases : (d n : ℕ) → d < n + 1 → (d < n) ⊎ (d ≡ n)
last-cases d n l = elim (cases_order d n) [ inl e ↦ inr e | inr o ↦ elim o [ inl a ↦ inl a | inr a ↦ absurd (omega arith) ] ]

-- the statement at n is covered
covered : (qs : List PlainStatement) (n : ℕ) (given : List ℕ) → AreGivenTo qs n given
    → ((s : PlainStatement) → slice_get qs n ≡ Some s → IsTrue (is_condition s) → (g : ℕ) × Has given g × (slice_get qs g ≡ Some s)) → AreGivenTo qs (n + 1) given
covered qs n given h last = record {
  each = λ d m. (let l = h.each d m in omega arith);
  first = h.first;
  covers = λ d s l e t. elim (last-cases d n l) [ inl a ↦ h.covers d s a e t | inr a ↦ last s (subst (λ z. slice_get qs z ≡ Some s) a e) t ];
  ascending = h.ascending;
}

pub given-past : (qs : List PlainStatement) (n : ℕ) (given : List ℕ) → ((s : PlainStatement) → slice_get qs n ≡ Some s → false ≡ is_condition s) → AreGivenTo qs n given → AreGivenTo qs (n + 1) given
given-past qs n given none h = covered qs n given h (λ s e t. absurd (let f = none s e in let g : is_condition s ≡ true = t in let z : false ≡ true = f ∙ g in cc))

pub given-again : (qs : List PlainStatement) (n g : ℕ) (given : List ℕ) → Has given g → slice_get qs g ≡ slice_get qs n → AreGivenTo qs n given → AreGivenTo qs (n + 1) given
given-again qs n g given m same h = covered qs n given h (λ s e t. (g, m, same ∙ e))

get-last : (xs : List ℕ) (q n d : ℕ) → slice_get (xs ++ q ∷ []) n ≡ Some d → (slice_get xs n ≡ Some d) ⊎ ((n ≡ length xs) × (q ≡ d))
get-last [] q zero d e = inr (refl, same_Some q d e)
get-last [] q (suc n) d e = absurd (cc)
get-last (x ∷ xs) q zero d e = inl e
get-last (x ∷ xs) q (suc n) d e = elim (get-last xs q n d e) [ inl a ↦ inl a | inr b ↦ inr (ap (λ z. suc z) b.0, b.1) ]

get-inside : (xs : List ℕ) (n d : ℕ) → slice_get xs n ≡ Some d → n < length xs
get-inside [] n d e = absurd (cc)
get-inside (x ∷ xs) zero d e = omega arith
get-inside (x ∷ xs) (suc n) d e = let l = get-inside xs n d e in omega arith

pub given-more : (qs : List PlainStatement) (n : ℕ) (s : PlainStatement) (given : List ℕ) → slice_get qs n ≡ Some s → IsTrue (is_condition s) → ((g : ℕ) → Has given g → slice_get qs g ≡ Some s → ⊥) → AreGivenTo qs n given → AreGivenTo qs (n + 1) (given ++ n ∷ [])
given-more qs n s given at is new h = record {
  each = λ d m. elim (Has-cases given (n ∷ []) d m) [ inl a ↦ (let l = h.each d a in omega arith) | inr b ↦ elim b [ inl e ↦ (let l : d < n + 1 = omega arith in l) | inr z ↦ absurd z ] ];
  first = λ d m. elim (Has-cases given (n ∷ []) d m) [ inl a ↦ h.first d a | inr b ↦ elim b [ inl e ↦ subst (λ z. IsGivenAt qs z) e here | inr z ↦ absurd z ] ];
  covers = λ d t l e c. elim (last-cases d n l) [
    | inl a ↦ (let g = h.covers d t a e c in (g.0, Has-left given (n ∷ []) g.0 g.1, g.2))
    | inr a ↦ (n, Has-right given (n ∷ []) n (inl refl), subst (λ z. slice_get qs z ≡ Some t) a e)
  ];
  ascending = ascending;
}
  where
    first-here : IsFirstOfEqual qs n
    first-here k e = elim (cases_order k n) [
      | inl a ↦ (let l : n ≤ k = omega arith in l)
      | inr o ↦ elim o [
        | inl a ↦ absurd (let there : slice_get qs k ≡ Some s = e ∙ at in let g = h.covers k s a there is in new g.0 g.1 g.2)
        | inr a ↦ (let l : n ≤ k = omega arith in l)
      ]
    ]

    here : IsGivenAt qs n
    here = record { statement = s; there = at; is = is; first = first-here }

    ascending : (a b x y : ℕ) → slice_get (given ++ n ∷ []) a ≡ Some x → slice_get (given ++ n ∷ []) b ≡ Some y → a < b → x < y
    ascending a b x y ea eb l = elim (get-last given n b y eb) [
      | inl q ↦ elim (get-last given n a x ea) [
        | inl p ↦ h.ascending a b x y p q l
        | inr p ↦ absurd (let i = get-inside given b y q in let e = p.0 in omega arith)
      ]
      | inr q ↦ elim (get-last given n a x ea) [
        | inl p ↦ (let m = h.each x (has-at given a x p) in let e = q.1 in omega arith)
        | inr p ↦ absurd (let e = p.0 in let f = q.0 in omega arith)
      ]
    ]

-- ---- the numbers that a loop has passed

pub number-none : (xs : List ℕ) (y : ℕ) → Has (take 0 xs) y → ⊥
number-none [] y h = h
number-none (x ∷ xs) y h = h

number-suc : (xs : List ℕ) (k y : ℕ) → k < length xs → Has (take (suc k) xs) y → Has (take k xs) y ⊎ (get_or xs k 0 ≡ y)
number-suc [] k y l h = absurd (omega arith)
number-suc (z ∷ zs) zero y l (inl e) = inr e
number-suc (z ∷ zs) zero y l (inr h) = absurd (number-none zs y h)
number-suc (z ∷ zs) (suc k) y l (inl e) = inl (inl e)
number-suc (z ∷ zs) (suc k) y l (inr h) = elim (number-suc zs k y (omega arith) h) [ inl a ↦ inl (inr a) | inr b ↦ inr b ]

pub number-more : (xs : List ℕ) (k y : ℕ) → k < length xs → Has (take (k + 1) xs) y → Has (take k xs) y ⊎ (get_or xs k 0 ≡ y)
number-more xs k y l h = let s : k + 1 ≡ suc k = omega arith in number-suc xs k y l (subst (λ n. Has (take n xs) y) s h)

pub number-has : (xs : List ℕ) (k : ℕ) → k < length xs → Has xs (get_or xs k 0)
number-has [] k l = absurd (omega arith)
number-has (x ∷ xs) zero l = inl refl
number-has (x ∷ xs) (suc k) l = inr (number-has xs k (omega arith))

pub number-all : (xs : List ℕ) (n y : ℕ) → length xs ≤ n → Has xs y → Has (take n xs) y
number-all [] n y l h = absurd h
number-all (x ∷ xs) zero y l h = absurd (omega arith)
number-all (x ∷ xs) (suc n) y l (inl e) = inl e
number-all (x ∷ xs) (suc n) y l (inr h) = inr (number-all xs n y (omega arith) h)
