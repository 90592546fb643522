-- What a builder knows of the names of its statements, as names are looked at and statements appended.
use Rattle.std.proofs.Common.{◌≡◌, ℕ, zero, suc, ◌+◌, ◌<◌, ◌≤◌, ◌^◌, ◌++◌, ◌⊎◌, inl, inr, length, map, List, [], ◌∷◌, Bool, true, false, Global, Result, Ok, Err, refl, sym, ap, ◌∙◌, subst, arith}
use Rattle.std.specs.Prelude.{String, bytes_eq, cond, IfOk, OnErr}
use Rattle.std.specs.BTreeSet.{BTreeSet, contains_text, Updates, IsEmpty}
use Rattle.std.specs.String.{string_bytes, string_cmp}
use Rattle.std.proofs.lemmas.Bool.{cases_lt, both_ways}
use Rattle.std.proofs.lemmas.List.{map-append, length_push}
use Rattle.std.proofs.lemmas.Map.Text.{btree_set_updates_text}
use Rattle.std.proofs.lemmas.Slice.Eq.{bytes_eq-Decides}
use Rattle.souper_graph.specs.declared.ast.statements.Statement.{Statement}
use Rattle.souper_graph.specs.declared.ast.taken_names.TakenNames.{TakenNames}
use Rattle.souper_graph.specs.Values.{PlainStatement}
use Rattle.souper_graph.specs.View.{view_statement}
use Rattle.souper_graph.specs.Text.{name_at}
use Rattle.souper_graph.specs.Renaming.{name_of_index}
use Rattle.souper_graph.specs.Building.{IsNameAmong, IsFirstFree}
use Rattle.souper_graph.specs.TakenNames.{Knows}
use Rattle.souper_graph.proofs.Sameness.Renaming.{one_number}

-- ---- the set with one more name

module _ (s n : BTreeSet (String Global)) (k : String Global) (u : Updates string_cmp s n k true) where
  after : (t : List ℕ) → contains_text n t ≡ cond (bytes_eq (string_bytes k) t) true (contains_text s t)
  after t = btree_set_updates_text (string_bytes k) s n true u t

  either : (b c : Bool) → c ≡ true → cond b true c ≡ true
  either true c h = refl
  either false c h = h

  pub inserted-kept : (t : List ℕ) → contains_text s t ≡ true → contains_text n t ≡ true
  inserted-kept t h = after t ∙ either (bytes_eq (string_bytes k) t) (contains_text s t) h

  one-of : (t : List ℕ) (b : Bool) → bytes_eq (string_bytes k) t ≡ b → cond b true (contains_text s t) ≡ true → (contains_text s t ≡ true) ⊎ (t ≡ string_bytes k)
  one-of t true e h = inr (sym ((bytes_eq-Decides (string_bytes k) t).0 e))
  one-of t false e h = inl h

  pub inserted-only : (t : List ℕ) → contains_text n t ≡ true → (contains_text s t ≡ true) ⊎ (t ≡ string_bytes k)
  inserted-only t h = one-of t (bytes_eq (string_bytes k) t) refl (sym (after t) ∙ h)

  pub inserted-has : contains_text n (string_bytes k) ≡ true
  inserted-has = after (string_bytes k) ∙ ap (λ (b : Bool). cond b true (contains_text s (string_bytes k))) ((bytes_eq-Decides (string_bytes k) (string_bytes k)).1 refl)

-- ---- what is known

pub knows-nothing : (ss : List PlainStatement) (names : BTreeSet (String Global)) → IsEmpty names → Knows ss (record { names = names; looked_at = 0; next = 0 })
knows-nothing ss names e = record {
  within = omega arith;
  entered = λ p n l m w q. absurd (omega arith);
  only = λ t h. absurd (both_ways (contains_text names t) (ap (λ (ks : List (String Global)). contains_text (record { keys = ks }) t) e) h);
  passed = λ j l m. absurd (omega arith);
}

-- further names in the set, where the next statement was not looked at
pub more-names : (ss : List PlainStatement) (a : TakenNames) (names : BTreeSet (String Global)) (i : ℕ) (name : List ℕ) → Knows ss a → i < length ss → name ≡ name_at ss i →
    ((t : List ℕ) → contains_text a.names t ≡ true → contains_text names t ≡ true) → ((t : List ℕ) → contains_text names t ≡ true → (contains_text a.names t ≡ true) ⊎ (t ≡ name)) →
    Knows ss (record { names = names; looked_at = a.looked_at; next = a.next })
more-names ss a names i name k l e kept only = record {
  within = k.within;
  entered = λ p n q m w h. kept (name_of_index n) (k.entered p n q m w h);
  only = λ t h. elim (only t h) [
    | inl old ↦ k.only t old
    | inr new ↦ (i, l, sym e ∙ sym new)
  ];
  passed = k.passed;
}

-- the next statement was looked at
pub looked-at : (ss : List PlainStatement) (a : TakenNames) (names : BTreeSet (String Global)) (i : ℕ) (name own : List ℕ) → Knows ss a → a.looked_at ≡ i → i < length ss → length ss < 2 ^ 64 → name ≡ name_at ss i → own ≡ name_of_index i →
    ((t : List ℕ) → contains_text a.names t ≡ true → contains_text names t ≡ true) → ((t : List ℕ) → contains_text names t ≡ true → (contains_text a.names t ≡ true) ⊎ (t ≡ name)) →
    ((contains_text names name ≡ true) ⊎ (name ≡ own)) →
    Knows ss (record { names = names; looked_at = i + 1; next = a.next })
looked-at ss a names i name own k here l few e o kept only entered =
    let more = more-names ss a names i name k l e kept only in
    record {
      within = omega arith;
      entered = λ p n q m w h. elim (cases_lt p i) [
        | inl less ↦ more.entered p n (omega arith) m w h
        | inr not ↦ (let at : p ≡ i = omega arith in
            let is : name ≡ name_of_index n = e ∙ ap (name_at ss) (sym at) ∙ h in
            elim entered [
              | inl has ↦ subst (λ (t : List ℕ). contains_text names t ≡ true) is has
              | inr same ↦ (let number = one_number i n (omega arith) w (sym o ∙ sym same ∙ is) in absurd (omega arith))
            ])
      ];
      only = more.only;
      passed = more.passed;
    }

-- the numbers below the next one are all taken
pub known-next : (ss : List PlainStatement) (a : TakenNames) (n : ℕ) → Knows ss a → ((j : ℕ) → length ss ≤ j → j < n → IsNameAmong ss (name_of_index j)) → Knows ss (record { names = a.names; looked_at = a.looked_at; next = n })
known-next ss a n k passed = record { within = k.within; entered = k.entered; only = k.only; passed = passed }

pub first-free : (ss : List PlainStatement) (a : TakenNames) (n : ℕ) (t : List ℕ) → Knows ss a → length ss ≤ a.looked_at → length ss ≤ n → n < 2 ^ 64 → ((j : ℕ) → length ss ≤ j → j < n → IsNameAmong ss (name_of_index j)) →
    t ≡ name_of_index n → contains_text a.names t ≡ false → IsFirstFree ss t
first-free ss a n t k all from wide passed e new = record {
  number = n;
  from = from;
  is = e;
  free = λ h. both_ways (contains_text a.names t) new (ap (contains_text a.names) e ∙ k.entered h.0 n (let l = h.1 in omega arith) from wide (h.2 ∙ e));
  least = passed;
}

-- ---- one more statement

front-name : (ss : List PlainStatement) (s : PlainStatement) (p : ℕ) → p < length ss → name_at (ss ++ s ∷ []) p ≡ name_at ss p
front-name [] s p l = absurd (omega arith)
front-name (x ∷ ss) s zero l = refl
front-name (x ∷ ss) s (suc p) l = front-name ss s p (omega arith)

more-among : (ss : List PlainStatement) (s : PlainStatement) (t : List ℕ) → IsNameAmong ss t → IsNameAmong (ss ++ s ∷ []) t
more-among ss s t h = (h.0, (let l = h.1 in let long = length_push ss s in omega arith), front-name ss s h.0 h.1 ∙ h.2)

pub knows-more : (ss : List PlainStatement) (s : PlainStatement) (a : TakenNames) → Knows ss a → Knows (ss ++ s ∷ []) a
knows-more ss s a k =
    let long = length_push ss s in
    let within = k.within in
    record {
      within = omega arith;
      entered = λ p n q m w h. k.entered p n q (omega arith) w (sym (front-name ss s p (omega arith)) ∙ h);
      only = λ t h. more-among ss s t (k.only t h);
      passed = λ j l m. more-among ss s (name_of_index j) (k.passed j (omega arith) m);
    }

pub knows-appended : {T E : Type 0} (r : Result T E) (old new : List Statement) (s : Statement) → IfOk r (λ _. new ≡ old ++ s ∷ []) → OnErr r (new ≡ old) →
    (a : TakenNames) → Knows (map view_statement old) a → Knows (map view_statement new) a
knows-appended (Ok x) old new s grown same a k =
    subst (λ (z : List PlainStatement). Knows z a) (sym (ap (map view_statement) grown ∙ map-append view_statement old (s ∷ []))) (knows-more (map view_statement old) (view_statement s) a k)
knows-appended (Err x) old new s grown same a k = subst (λ (z : List Statement). Knows (map view_statement z) a) (sym same) k
