-- Lemmas. The first of each key, and how many have it.
use Rattle.std.proofs.Common.{◌≡◌, inl, inr, ℕ, Bool, true, false, List, [], ◌∷◌, ◌++◌, refl, sym, ap, ◌∙◌, subst, append_assoc, append-nil, ◌+◌, cond, map, arith, bytes_eq, ◌||◌, if◌then◌else◌, String, string_bytes, string_eq, unwrap_or}
use Rattle.std.specs.List.{AllByRecursion, count_by}
use Rattle.std.proofs.lemmas.Bool.{cases_Bool, both_ways, or_parts, or_cases, or_left, or_right, false_from_ne_true}
use Rattle.std.proofs.lemmas.Slice.Eq.{bytes_eq-Decides}
use Rattle.std.proofs.lemmas.List.Folds.{list_any-append}
use Rattle.souper_graph.specs.Uses.{Has}
use Rattle.souper_graph.proofs.Lists.{Has-right}
use Rattle.souper_graph.proofs.Judging.Closed.{All-both, All-has, All-from_has}
use Rattle.souper_records.specs.Distinct.{has_key, distinct_by, NoTwo, HoldsOfOne, one_more, count_with_key, counts_by, tally, tally_all}
use Rattle.std.specs.Map.{lookup}
use Rattle.std.proofs.lemmas.List.Sums.{sum_by-append, sum_by-cons}
use Rattle.indexmap.specs.IndexMap.{insert_entry}
use Rattle.souper_records.specs.Uniques.{text_count}

-- the count of one text more
pub inserted : {M : Type 0} (t : String M) (es : List (String M × ℕ)) → map text_count (insert_entry string_eq es t (one_more (unwrap_or (lookup (string_eq t) es) 0))) ≡ tally (map text_count es) (string_bytes t)
inserted t [] = refl
inserted t (e ∷ es) = elim (cases_Bool (string_eq t e.0)) [
  | inl own ↦ rw own refl
  | inr other ↦ rw other (ap (λ l. text_count e ∷ l) (inserted t es))
]

module _ {A : Type 0} (key : A → List ℕ) where
  has_append : (k : List ℕ) (xs ys : List A) → has_key key k (xs ++ ys) ≡ (has_key key k xs || has_key key k ys)
  has_append k xs ys = list_any-append (λ b. bytes_eq k (key b)) xs ys

  abbrev kept : List A → A → List A
  kept before a = if has_key key (key a) before then [] else a ∷ []

  -- the first elements of two lists, one after the other
  pub distinct-append : (before xs ys : List A) → distinct_by key before (xs ++ ys) ≡ distinct_by key before xs ++ distinct_by key (before ++ xs) ys
  distinct-append before [] ys = ap (λ (b : List A). distinct_by key b ys) (sym (append-nil before))
  distinct-append before (x ∷ xs) ys =
      ap (λ (l : List A). kept before x ++ l) (distinct-append (before ++ x ∷ []) xs ys ∙ ap (λ (b : List A). distinct_by key (before ++ x ∷ []) xs ++ distinct_by key b ys) (append_assoc before (x ∷ []) xs))
      ∙ sym (append_assoc (kept before x) (distinct_by key (before ++ x ∷ []) xs) (distinct_by key (before ++ x ∷ xs) ys))

  -- a key is among the distinct elements, or before, if and only if it is among all
  pub has-distinct : (k : List ℕ) (before xs : List A) → (has_key key k before || has_key key k (distinct_by key before xs)) ≡ (has_key key k before || has_key key k xs)
  has-distinct k before [] = refl
  has-distinct k before (x ∷ xs) =
      let rest = distinct_by key (before ++ x ∷ []) xs in
      let more : ((has_key key k before || has_key key k (x ∷ [])) || has_key key k rest) ≡ ((has_key key k before || has_key key k (x ∷ [])) || has_key key k xs) =
      subst (λ (b : Bool). (b || has_key key k rest) ≡ (b || has_key key k xs)) (has_append k before (x ∷ [])) (has-distinct k (before ++ x ∷ []) xs) in
      elim (cases_Bool (has_key key k before)) [
        | inl here ↦ rw here refl
        | inr none ↦ elim (cases_Bool (bytes_eq k (key x))) [
          | inl own ↦ let new : has_key key (key x) before ≡ false = ap (λ (t : List ℕ). has_key key t before) (sym ((bytes_eq-Decides k (key x)).0 own)) ∙ none in rw (none, new, own) refl
          | inr other ↦ let later : has_key key k rest ≡ has_key key k xs = rw (none, other) at more in elim (cases_Bool (has_key key (key x) before)) [
            | inl known ↦ rw (none, other, known) later
            | inr new ↦ rw (none, new, other) later
          ]
        ]
      ]

  has_in : (k : List ℕ) (xs : List A) (a : A) → Has xs a → k ≡ key a → has_key key k xs ≡ true
  has_in k [] a h e = absurd h
  has_in k (x ∷ xs) a (inl is) e = or_left (bytes_eq k (key x)) (has_key key k xs) ((bytes_eq-Decides k (key x)).1 (e ∙ ap key (sym is)))
  has_in k (x ∷ xs) a (inr h) e = or_right (bytes_eq k (key x)) (has_key key k xs) (has_in k xs a h e)

  -- a first one is an element, and none before has its key
  in_distinct : (before xs : List A) (y : A) → Has (distinct_by key before xs) y → Has xs y × (has_key key (key y) before ≡ false)
  in_distinct before [] y h = absurd h
  in_distinct before (x ∷ xs) y h =
      let later : Has (distinct_by key (before ++ x ∷ []) xs) y → Has (x ∷ xs) y × (has_key key (key y) before ≡ false) =
      (λ more. let p = in_distinct (before ++ x ∷ []) xs y more in (inr p.0, (or_parts (has_key key (key y) before) (has_key key (key y) (x ∷ [])) (sym (has_append (key y) before (x ∷ [])) ∙ p.1)).0)) in
      elim (cases_Bool (has_key key (key x) before)) [
        | inl known ↦ later (rw known at h)
        | inr new ↦ elim (rw new at h) [
          | inl is ↦ (inl is, subst (λ z. has_key key (key z) before ≡ false) is new)
          | inr more ↦ later more
        ]
      ]

  distinct-all : (P : A → Type 0) (before xs : List A) → AllByRecursion P xs → AllByRecursion P (distinct_by key before xs)
  distinct-all P before xs ps = All-from_has P (distinct_by key before xs) (λ y h. All-has P xs y ps (in_distinct before xs y h).0)

  -- elements that are the same have one key, if P holds of them
  module _ (P : A → Type 0) (R : A → A → Type 0) (same : (a b : A) → P a → P b → R a b → key a ≡ key b) where
    unlike : (before xs : List A) (b y : A) → AllByRecursion P xs → P b → Has before b → Has (distinct_by key before xs) y → R b y → ⊥
    unlike before xs b y ps p at h r =
        let first = in_distinct before xs y h in
        both_ways (has_key key (key y) before) first.1 (has_in (key y) before b at (sym (same b y p (All-has P xs y ps first.0) r)))

    -- no first one is the same as one before
    pub distinct-unseen : (before xs : List A) → AllByRecursion P before → AllByRecursion P xs → AllByRecursion (λ y. AllByRecursion (λ b. R b y → ⊥) before) (distinct_by key before xs)
    distinct-unseen before xs bs ps = All-from_has (λ y. AllByRecursion (λ b. R b y → ⊥) before) (distinct_by key before xs) (λ y h. All-from_has (λ b. R b y → ⊥) before (λ b at. unlike before xs b y ps (All-has P before b bs at) at h))

    -- no two of the distinct elements are the same
    pub distinct-no_two : (before xs : List A) → AllByRecursion P xs → NoTwo R (distinct_by key before xs)
    distinct-no_two before [] ps = tt
    distinct-no_two before (x ∷ xs) ps =
        let two = distinct-no_two (before ++ x ∷ []) xs ps.1 in
        elim (cases_Bool (has_key key (key x) before)) [
          | inl known ↦ rw known two
          | inr new ↦ rw new (All-from_has (λ y. R x y → ⊥) (distinct_by key (before ++ x ∷ []) xs) (λ y h. unlike (before ++ x ∷ []) xs x y ps.1 ps.0 (Has-right before (x ∷ []) x (inl refl)) h), two)
        ]

  -- elements with one key are the same, if P holds of them
  module _ (P : A → Type 0) (R : A → A → Type 0) (one : (a b : A) → P a → P b → key a ≡ key b → R a b) where
    found : (a : A) (xs : List A) → P a → AllByRecursion P xs → has_key key (key a) xs ≡ true → HoldsOfOne (R a) xs
    found a [] p ps h = absurd cc
    found a (x ∷ xs) p ps h = elim (or_cases (bytes_eq (key a) (key x)) (has_key key (key a) xs) h) [
      | inl own ↦ inl (one a x p ps.0 ((bytes_eq-Decides (key a) (key x)).0 own))
      | inr later ↦ inr (found a xs p ps.1 later)
    ]

    -- each element is the same as a first one, or as one before
    pub distinct-cover : (before xs : List A) → AllByRecursion P before → AllByRecursion P xs → AllByRecursion (λ a. HoldsOfOne (R a) (before ++ distinct_by key before xs)) xs
    distinct-cover before xs bs ps =
        let first = distinct_by key before xs in
        All-from_has (λ a. HoldsOfOne (R a) (before ++ first)) xs (λ a h. found a (before ++ first) (All-has P xs a ps h) (All-both P before first bs (distinct-all P before xs ps))
        (has_append (key a) before first ∙ has-distinct (key a) before xs ∙ or_right (has_key key (key a) before) (has_key key (key a) xs) (has_in (key a) xs a h refl)))

  -- ---- counts

  not_own : (a x : A) → (key x ≡ key a → ⊥) → bytes_eq (key a) (key x) ≡ false
  not_own a x other = false_from_ne_true (bytes_eq (key a) (key x)) (λ same. other (sym ((bytes_eq-Decides (key a) (key x)).0 same)))

  counts_more : (a x : A) (xs : List A) → count_by (λ b. bytes_eq (key a) (key b)) (xs ++ x ∷ []) ≡ count_by (λ b. bytes_eq (key a) (key b)) xs + cond (bytes_eq (key a) (key x)) 1 0
  counts_more a x xs = let e = sum_by-append (λ b. cond (bytes_eq (key a) (key b)) 1 0) xs (x ∷ []) in omega arith

  other_count : (a x : A) (xs : List A) → (key x ≡ key a → ⊥) → count_with_key key xs a ≡ count_with_key key (xs ++ x ∷ []) a
  other_count a x xs other = let more = rw (not_own a x other) at (counts_more a x xs) in omega arith

  own_count : (a x : A) (xs : List A) → key x ≡ key a → one_more (count_with_key key xs a) ≡ count_with_key key (xs ++ x ∷ []) a
  own_count a x xs same = let more = rw ((bytes_eq-Decides (key a) (key x)).1 (sym same)) at (counts_more a x xs) in omega arith

  no_count : (x : A) (xs : List A) → has_key key (key x) xs ≡ false → count_with_key key xs x ≡ 0
  no_count x [] none = omega arith
  no_count x (a ∷ xs) none =
      let p = or_parts (bytes_eq (key x) (key a)) (has_key key (key x) xs) none in
      let first : count_by (λ b. bytes_eq (key x) (key b)) (a ∷ xs) ≡ 0 + count_by (λ b. bytes_eq (key x) (key b)) xs = sum_by-cons (λ b. cond (bytes_eq (key x) (key b)) 1 0) a xs ∙ rw p.0 refl in
      let rest = no_count x xs p.1 in
      omega arith

  abbrev counted : List A → A → List ℕ × ℕ
  counted xs a = (key a, count_with_key key xs a)

  -- the counts of those with another key stay
  others : (x a : A) (xs fs : List A) → key x ≡ key a → AllByRecursion (λ b. key a ≡ key b → ⊥) fs → map (counted xs) fs ≡ map (counted (xs ++ x ∷ [])) (fs ++ [])
  others x a xs [] same h = refl
  others x a xs (b ∷ fs) same h = (λ i. (key b, other_count b x xs (λ e. h.0 (sym same ∙ e)) i) ∷ others x a xs fs same h.1 i)

  among : (x : A) (xs fs : List A) → NoTwo (λ a b. key a ≡ key b) fs → (has_key key (key x) fs ≡ false → count_with_key key xs x ≡ 0)
      → tally (map (counted xs) fs) (key x) ≡ map (counted (xs ++ x ∷ [])) (fs ++ (if has_key key (key x) fs then [] else x ∷ []))
  among x xs [] two fresh = (λ i. (key x, (ap one_more (sym (fresh refl)) ∙ own_count x x xs refl) i) ∷ [])
  among x xs (a ∷ fs) two fresh = elim (cases_Bool (bytes_eq (key x) (key a))) [
    | inl own ↦ let same : key x ≡ key a = (bytes_eq-Decides (key x) (key a)).0 own in rw own (λ i. (key a, own_count a x xs same i) ∷ others x a xs fs same two.0 i)
    | inr other ↦ let unlike : key x ≡ key a → ⊥ = (λ same. both_ways (bytes_eq (key x) (key a)) other ((bytes_eq-Decides (key x) (key a)).1 same)) in
        rw other (λ i. (key a, other_count a x xs unlike i) ∷ among x xs fs two.1 (λ none. fresh (rw other none)) i)
  ]

  tallied : (xs : List A) (x : A) → tally (counts_by key xs) (key x) ≡ counts_by key (xs ++ x ∷ [])
  tallied xs x =
      let fs = distinct_by key [] xs in
      let has : has_key key (key x) fs ≡ has_key key (key x) xs = has-distinct (key x) [] xs in
      let two : NoTwo (λ a b. key a ≡ key b) fs = distinct-no_two (λ a. Unit {0}) (λ a b. key a ≡ key b) (λ a b p q e. e) [] xs (All-from_has (λ a. Unit {0}) xs (λ a h. tt)) in
      among x xs fs two (λ none. no_count x xs (sym has ∙ none))
      ∙ ap (map (counted (xs ++ x ∷ []))) ((λ i. fs ++ (if has i then [] else x ∷ [])) ∙ ap (λ l. fs ++ l) (sym (append-nil (if has_key key (key x) xs then [] else x ∷ []))) ∙ sym (distinct-append [] xs (x ∷ [])))

  pub tallied_all : (xs ys : List A) → tally_all (counts_by key xs) (map key ys) ≡ counts_by key (xs ++ ys)
  tallied_all xs [] = ap (counts_by key) (sym (append-nil xs))
  tallied_all xs (y ∷ ys) = ap (λ es. tally_all es (map key ys)) (tallied xs y) ∙ tallied_all (xs ++ y ∷ []) ys ∙ ap (counts_by key) (append_assoc xs (y ∷ []) ys)
