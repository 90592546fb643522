-- The path conditions of a list of statements, found one by one.
use Rattle.std.proofs.Common.{◌≡◌, ℕ, zero, suc, ◌+◌, ◌<◌, ◌++◌, ◌⊎◌, ◌↔◌, inl, inr, length, map, List, [], ◌∷◌, Bool, true, false, cond, IsTrue, refl, sym, ap, ◌∙◌, append_assoc, append-nil, arith, take, Some, None, slice_get}
use Rattle.std.proofs.lemmas.List.{map-append}
use Rattle.std.proofs.lemmas.Option.{slice_get-map, slice_get_cases}
use Rattle.std.specs.Option.{option_map}
use Rattle.souper_graph.specs.declared.ast.statements.Statement.{Statement}
use Rattle.souper_graph.specs.declared.stringify.order.Target.{Target}
use Rattle.souper_graph.specs.declared.stringify.order.Target.TheVariants.{Condition}
use Rattle.souper_graph.specs.Values.{PlainStatement, assigned, condition, block_condition}
use Rattle.souper_graph.specs.View.{view_statement}
use Rattle.souper_graph.specs.Uses.{Has, is_condition, conditions_from}
use Rattle.souper_graph.specs.WellFormed.{IsAssigned}

same_some : (x y : PlainStatement) → Some x ≡ Some y → x ≡ y
same_some x y e = cc

under : (b : Bool) (k : ℕ) (z c : List ℕ) → cond b (k ∷ (z ++ c)) (z ++ c) ≡ cond b (k ∷ z) z ++ c
under true k z c = refl
under false k z c = refl

-- one more statement
conditions-next : (ss : List PlainStatement) (k n : ℕ) (s : PlainStatement) → slice_get ss n ≡ Some s →
    conditions_from k (take (suc n) ss) ≡ conditions_from k (take n ss) ++ cond (is_condition s) ((k + n) ∷ []) []
conditions-next [] k n s e = absurd (cc)
conditions-next (x ∷ ss) k zero s e =
    ap (λ z. cond (is_condition z) (k ∷ []) []) (same_some x s e) ∙ ap (λ j. cond (is_condition s) (j ∷ []) []) (let q : k ≡ k + 0 = omega arith in q)
conditions-next (x ∷ ss) k (suc n) s e =
    ap (λ z. cond (is_condition x) (k ∷ z) z)
    (conditions-next ss (suc k) n s e
    ∙ ap (λ j. conditions_from (suc k) (take n ss) ++ cond (is_condition s) (j ∷ []) []) (let q : suc k + n ≡ k + suc n = omega arith in q))
    ∙ under (is_condition x) k (conditions_from (suc k) (take n ss)) (cond (is_condition s) ((k + suc n) ∷ []) [])

has_under : (b : Bool) (k i : ℕ) (z : List ℕ) → Has (cond b (k ∷ z) z) i → (k ≡ i) ⊎ Has z i
has_under true k i z h = h
has_under false k i z h = inr h

-- a path condition is in the list
pub conditions-inside : (ss : List PlainStatement) (k i : ℕ) → Has (conditions_from k ss) i → i < k + length ss
conditions-inside [] k i h = absurd h
conditions-inside (x ∷ ss) k i h = elim (has_under (is_condition x) k i (conditions_from (suc k) ss) h) [
  | inl e ↦ omega arith
  | inr r ↦ (let q = conditions-inside ss (suc k) i r in omega arith)
]

assigned_is : (s : PlainStatement) → IsAssigned (Some s) → is_condition s ≡ false
assigned_is (assigned a) h = refl
assigned_is (condition p) h = absurd h
assigned_is (block_condition p) h = absurd h

condition_is : (s : PlainStatement) → (IsAssigned (Some s) → ⊥) → is_condition s ≡ true
condition_is (assigned a) h = absurd (h tt)
condition_is (condition p) h = refl
condition_is (block_condition p) h = refl

step : (g : List Statement) (n : ℕ) (s : Statement) → slice_get g n ≡ Some s →
    conditions_from 0 (take (n + 1) (map view_statement g)) ≡ conditions_from 0 (take n (map view_statement g)) ++ cond (is_condition (view_statement s)) (n ∷ []) []
step g n s e =
    ap (λ j. conditions_from 0 (take j (map view_statement g))) (let q : n + 1 ≡ suc n = omega arith in q)
    ∙ conditions-next (map view_statement g) 0 n (view_statement s) (slice_get-map view_statement g n ∙ ap (option_map view_statement) e)
    ∙ ap (λ j. conditions_from 0 (take n (map view_statement g)) ++ cond (is_condition (view_statement s)) (j ∷ []) []) (let q : 0 + n ≡ n = omega arith in q)

abbrev conditions_of : List Target → List Statement → ℕ → List Target
conditions_of old g n = old ++ map (λ i. Condition i) (conditions_from 0 (take n (map view_statement g)))

-- a statement that is no path condition
pub conditions_kept : (old now : List Target) (g : List Statement) (n i : ℕ) (s : Statement) (b : Bool) →
    now ≡ conditions_of old g n → slice_get g i ≡ Some s → i ≡ n → (IsTrue b ↔ IsAssigned (Some (view_statement s))) → b ≡ true → now ≡ conditions_of old g (n + 1)
conditions_kept old now g n i s b h e same t f =
    h ∙ ap (λ z. old ++ map (λ j. Condition j) z)
    (sym (append-nil (conditions_from 0 (take n (map view_statement g))))
    ∙ ap (λ z. conditions_from 0 (take n (map view_statement g)) ++ cond z (n ∷ []) []) (sym (assigned_is (view_statement s) (t.0 f)))
    ∙ sym (step g n s (ap (slice_get g) (sym same) ∙ e)))

-- a statement that is one
pub conditions_pushed : (old now next : List Target) (g : List Statement) (n i : ℕ) (s : Statement) (b : Bool) →
    now ≡ conditions_of old g n → slice_get g i ≡ Some s → i ≡ n → (IsTrue b ↔ IsAssigned (Some (view_statement s))) → b ≡ false →
    next ≡ now ++ Condition i ∷ [] → next ≡ conditions_of old g (n + 1)
conditions_pushed old now next g n i s b h e same t f p =
    let not_true : IsTrue b → ⊥ = λ y. cc in
    p ∙ ap (λ z. z ++ Condition i ∷ []) h ∙ ap (λ z. conditions_of old g n ++ Condition z ∷ []) same
    ∙ append_assoc old (map (λ j. Condition j) (conditions_from 0 (take n (map view_statement g)))) (Condition n ∷ [])
    ∙ ap (λ z. old ++ z)
    (sym (map-append (λ j. Condition j) (conditions_from 0 (take n (map view_statement g))) (n ∷ []))
    ∙ ap (map (λ j. Condition j))
    (ap (λ z. conditions_from 0 (take n (map view_statement g)) ++ cond z (n ∷ []) []) (sym (condition_is (view_statement s) (λ a. not_true (t.1 a))))
    ∙ sym (step g n s (ap (slice_get g) (sym same) ∙ e))))

-- a position with nothing at it is past the end
pub nothing_there : (g : List Statement) (i n : ℕ) → None ≡ slice_get g i → i ≡ n → n < length g → ⊥
nothing_there g i n e same h = elim (slice_get_cases g i).1 [
  | inl a ↦ (let q = a.2 in cc)
  | inr b ↦ (let q = b.0 in omega arith)
]
