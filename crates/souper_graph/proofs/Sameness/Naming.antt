-- Statements that are named one after the other, in the order of a list.
use Rattle.std.proofs.Common.{◌≡◌, ℕ, zero, suc, ◌+◌, ◌<◌, ◌≤◌, ◌++◌, inl, inr, length, map, take, List, [], ◌∷◌, Bool, false, cond, true, ne_eqb, Option, Some, None, get_or, refl, sym, ap, ◌∙◌, subst, arith}
use Rattle.std.specs.Prelude.{nat_lt, nat_eq, slice_set, option_map}
use Rattle.std.specs.List.{slice_get}
use Rattle.std.proofs.lemmas.Bool.{lt-ltb}
use Rattle.std.proofs.lemmas.Bool.Decides.{nat_tests}
use Rattle.std.proofs.lemmas.List.{length_push, length-map, length-take-le, take_more}
use Rattle.std.proofs.lemmas.Option.{slice_get-map, slice_get_cases}
use Rattle.souper_graph.specs.declared.ast.statements.Statement.{Statement}
use Rattle.souper_graph.specs.Values.{PlainStatement}
use Rattle.souper_graph.specs.View.{view_statement}
use Rattle.souper_graph.specs.Uses.{Has}
use Rattle.souper_graph.specs.Order.{Distinct}
use Rattle.souper_graph.specs.Sameness.{place}
use Rattle.souper_graph.specs.Renaming.{with_name, named_at, named_from}
use Rattle.souper_graph.proofs.Judging.Names.{Distinct-at}
use Rattle.souper_graph.proofs.Sameness.Indices.{place-joined}
use Rattle.souper_graph.proofs.Sameness.Named.{named-once}

one-less : (m n : ℕ) → nat_lt (suc m) (suc n) ≡ nat_lt m n
one-less m n = grind (arith, nat_tests)

some-first : (n : ℕ) → nat_lt 0 (suc n) ≡ true
some-first n = grind (arith, nat_tests)

-- a list that ends with another position names a statement as before
other-at : (name : ℕ → List ℕ) (xs : List ℕ) (i k : ℕ) (s : PlainStatement) → (i ≡ k → ⊥) → named_at name (xs ++ i ∷ []) k s ≡ named_at name xs k s
other-at name [] i k s ne = ap (λ (b : Bool). let p = cond b 0 1 in cond (nat_lt p 1) (with_name (name p) s) s) (ne_eqb i k ne)
other-at name (x ∷ xs) i k s ne = under (nat_eq x k) (other-at (λ p. name (suc p)) xs i k s ne)
  where
    at : List ℕ → Bool → PlainStatement
    at zs b = let p = cond b 0 (suc (place zs k)) in cond (nat_lt p (suc (length zs))) (with_name (name p) s) s

    under : (b : Bool) → named_at (λ p. name (suc p)) (xs ++ i ∷ []) k s ≡ named_at (λ p. name (suc p)) xs k s → at (xs ++ i ∷ []) b ≡ at xs b
    under true e = simp some-first
    under false e = simp one-less e

module _ (name : ℕ → List ℕ) where
  -- the statements after the position, or before it
  others-after : (xs : List ℕ) (i k : ℕ) (ss : List PlainStatement) → i < k → named_from name (xs ++ i ∷ []) k ss ≡ named_from name xs k ss
  others-after xs i k [] l = refl
  others-after xs i k (s ∷ ss) l = λ j. other-at name xs i k s (λ e. absurd (omega arith)) j ∷ others-after xs i (suc k) ss (omega arith) j

  others-before : (xs : List ℕ) (i k : ℕ) (ss : List PlainStatement) → k + length ss ≤ i → named_from name (xs ++ i ∷ []) k ss ≡ named_from name xs k ss
  others-before xs i k [] l = refl
  others-before xs i k (s ∷ ss) l = λ j. other-at name xs i k s (λ e. absurd (omega arith)) j ∷ others-before xs i (suc k) ss (omega arith) j

  this-at : (xs : List ℕ) (k : ℕ) (s : PlainStatement) → (Has xs k → ⊥) → named_at name (xs ++ k ∷ []) k s ≡ with_name (name (length xs)) s
  this-at xs k s new =
      let longer = length_push xs k in
      ap (λ p. cond (nat_lt p (length (xs ++ k ∷ []))) (with_name (name p) s) s) (place-joined xs k [] new)
      ∙ ap (λ (b : Bool). cond b (with_name (name (length xs)) s) s) (lt-ltb (length xs) (length (xs ++ k ∷ [])) (omega arith))

  named-set : (xs : List ℕ) (i k p : ℕ) (ss : List PlainStatement) (t : PlainStatement) → (Has xs i → ⊥) → k + p ≡ i → slice_get (named_from name xs k ss) p ≡ Some t →
      slice_set (named_from name xs k ss) p (with_name (name (length xs)) t) ≡ named_from name (xs ++ i ∷ []) k ss
  named-set xs i k p [] t new at e = absurd (cc)
  named-set xs i k zero (s ∷ ss) t new at e =
      let here : k ≡ i = omega arith in
      let n = name (length xs) in
      let same : with_name n t ≡ named_at name (xs ++ i ∷ []) k s =
      ap (with_name n) (some-is (named_at name xs k s) t e) ∙ named-once name xs k n s
      ∙ sym (this-at xs k s (λ h. new (subst (λ (z : ℕ). Has xs z) here h)))
      ∙ ap (λ (z : ℕ). named_at name (xs ++ z ∷ []) k s) here in
      λ j. same j ∷ sym (others-after xs i (suc k) ss (omega arith)) j
    where
      some-is : (x y : PlainStatement) → Some x ≡ Some y → y ≡ x
      some-is x y e = cc
  named-set xs i k (suc p) (s ∷ ss) t new at e =
      λ j. sym (other-at name xs i k s (λ d. absurd (omega arith))) j ∷ named-set xs i (suc k) p ss t new (omega arith) e j

  map-set : (ss : List Statement) (i : ℕ) (s : Statement) → map view_statement (slice_set ss i s) ≡ slice_set (map view_statement ss) i (view_statement s)
  map-set [] i s = refl
  map-set (x ∷ ss) zero s = refl
  map-set (x ∷ ss) (suc i) s = ap (λ (z : List PlainStatement). view_statement x ∷ z) (map-set ss i s)

  -- nothing is named by an empty list
  pub named-none : (k : ℕ) (ss : List PlainStatement) → named_from name [] k ss ≡ ss
  named-none k [] = refl
  named-none k (s ∷ ss) = ap (λ (z : List PlainStatement). s ∷ z) (named-none (suc k) ss)

  one-more : (ss : List PlainStatement) (ids : List ℕ) (k i : ℕ) → i ≡ get_or ids k i → k < length ids → named_from name (take k ids ++ i ∷ []) 0 ss ≡ named_from name (take (k + 1) ids) 0 ss
  one-more ss ids k i here l = ap (λ (z : ℕ). named_from name (take k ids ++ z ∷ []) 0 ss) here ∙ ap (λ (z : List ℕ). named_from name z 0 ss) (sym (take_more ids k i l))

  -- one more of the list is named
  pub named-next : (copy : List Statement) (ss : List PlainStatement) (ids : List ℕ) (k i : ℕ) (old new : Statement) (m : List ℕ) → i ≡ get_or ids k i → Distinct ids → k < length ids →
      map view_statement copy ≡ named_from name (take k ids) 0 ss → Some old ≡ slice_get copy i → view_statement new ≡ with_name m (view_statement old) →
      m ≡ name k → map view_statement (slice_set copy i new) ≡ named_from name (take (k + 1) ids) 0 ss
  named-next copy ss ids k i old new m here once l so at is e =
      let xs = take k ids in
      let long : length xs ≡ k = length-take-le k ids (omega arith) in
      map-set copy i new
      ∙ (λ j. slice_set (so j) i (is j))
      ∙ ap (λ (z : List ℕ). slice_set (named_from name xs 0 ss) i (with_name z (view_statement old))) (e ∙ ap name (sym long))
      ∙ named-set xs i 0 i ss (view_statement old) (subst (λ (z : ℕ). Has xs z → ⊥) (sym here) (Distinct-at ids k i once l)) (let z : 0 + i ≡ i = omega arith in z)
      (ap (λ (z : List PlainStatement). slice_get z i) (sym so) ∙ slice_get-map view_statement copy i ∙ ap (λ (o : Option Statement). option_map view_statement o) (sym at))
      ∙ one-more ss ids k i here l

  -- the list has a position past the end
  pub named-past : (copy : List Statement) (ss : List PlainStatement) (ids : List ℕ) (k d : ℕ) → d ≡ get_or ids k d → k < length ids →
      map view_statement copy ≡ named_from name (take k ids) 0 ss → None ≡ slice_get copy d → map view_statement copy ≡ named_from name (take (k + 1) ids) 0 ss
  named-past copy ss ids k d here l so none =
      let past : length copy ≤ d = elim (slice_get_cases copy d).1 [ inl h ↦ (let e : None ≡ Some h.0 = none ∙ h.2 in absurd (cc)) | inr h ↦ h.0 ] in
      let same : length copy ≡ length ss = sym (length-map copy view_statement) ∙ ap (λ (z : List PlainStatement). length z) so ∙ long (take k ids) 0 ss in
      so ∙ sym (others-before (take k ids) d 0 ss (omega arith)) ∙ one-more ss ids k d here l
    where
      long : (xs : List ℕ) (k : ℕ) (ss : List PlainStatement) → length (named_from name xs k ss) ≡ length ss
      long xs k [] = refl
      long xs k (s ∷ ss) = ap suc (long xs (suc k) ss)
