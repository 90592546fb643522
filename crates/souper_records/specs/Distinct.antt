-- Definitions. Distinct elements: the first of each key, and how many have it.
use Rattle.std.specs.Prelude.{◌⊎◌, Bool, ℕ, ◌+◌, ◌-◌, ◌^◌, List, [], ◌∷◌, ◌++◌, map, min, if◌then◌else◌, bytes_eq}
use Rattle.std.specs.List.{list_any, count_by, AllByRecursion}

-- an element has the key
abbrev pub has_key : {A : Type 0} → (A → List ℕ) → List ℕ → List A → Bool
has_key key k xs = list_any (λ b. bytes_eq k (key b)) xs

-- the elements whose key no earlier one has, neither one of `before` nor one of these
abbrev pub distinct_by : {A : Type 0} → (A → List ℕ) → List A → List A → List A
distinct_by key before [] = []
distinct_by key before (a ∷ rest) = (if has_key key (key a) before then [] else a ∷ []) ++ distinct_by key (before ++ a ∷ []) rest

-- R holds of no element and a later one
abbrev pub NoTwo : {A : Type 0} → (A → A → Type 0) → List A → Type 0
NoTwo R [] = Unit {0}
NoTwo R (a ∷ rest) = AllByRecursion (λ b. R a b → ⊥) rest × NoTwo R rest

-- P holds of an element
abbrev pub HoldsOfOne : {A : Type 0} → (A → Type 0) → List A → Type 0
HoldsOfOne P [] = ⊥
HoldsOfOne P (x ∷ xs) = P x ⊎ HoldsOfOne P xs

-- one more, up to the greatest number of 64 bits
abbrev pub one_more : ℕ → ℕ
one_more n = min (n + 1) (2 ^ 64 - 1)

-- how many elements have the key of a, up to the greatest number of 64 bits
abbrev pub count_with_key : {A : Type 0} → (A → List ℕ) → List A → A → ℕ
count_with_key key xs a = min (count_by (λ b. bytes_eq (key a) (key b)) xs) (2 ^ 64 - 1)

-- the key of each first one, and its count
abbrev pub counts_by : {A : Type 0} → (A → List ℕ) → List A → List (List ℕ × ℕ)
counts_by key xs = map (λ a. (key a, count_with_key key xs a)) (distinct_by key [] xs)

-- ---- The next two definitions are the code's, step by step. The promises are in `counts_by` alone, and a proof joins the two.

-- the counts of keys, with one more of a key: its count is one more, or is 1 after all if there was none
abbrev pub tally : List (List ℕ × ℕ) → List ℕ → List (List ℕ × ℕ)
tally [] k = (k, one_more 0) ∷ []
tally (e ∷ es) k = if bytes_eq k e.0 then (e.0, one_more e.1) ∷ es else e ∷ tally es k

-- with one more of each of these keys
abbrev pub tally_all : List (List ℕ × ℕ) → List (List ℕ) → List (List ℕ × ℕ)
tally_all es [] = es
tally_all es (k ∷ ks) = tally_all (tally es k) ks
