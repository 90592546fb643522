-- The path conditions of a list of statements.
use Rattle.std.proofs.Common.{◌≡◌, ℕ, zero, suc, ◌+◌, ◌++◌, inl, inr, take, List, [], ◌∷◌, Some, Bool, true, false, cond, refl, sym, ap, ◌∙◌, subst, arith}
use Rattle.std.specs.Prelude.{slice_get, IsTrue}
use Rattle.std.proofs.lemmas.Option.{same_Some}
use Rattle.souper_graph.specs.Values.{PlainStatement}
use Rattle.souper_graph.specs.Uses.{Has, is_condition, conditions_from}

under : (b : Bool) (k : ℕ) (z c : List ℕ) → cond b (k ∷ (z ++ c)) (z ++ c) ≡ cond b (k ∷ z) z ++ c
under true k z c = refl
under false k z c = refl

-- one more statement
pub conditions-next : (ss : List PlainStatement) (k n : ℕ) (s : PlainStatement) → slice_get ss n ≡ Some s →
    conditions_from k (take (suc n) ss) ≡ conditions_from k (take n ss) ++ cond (is_condition s) ((k + n) ∷ []) []
conditions-next [] k n s e = absurd (cc)
conditions-next (x ∷ ss) k zero s e =
    ap (λ z. cond (is_condition z) (k ∷ []) []) (same_Some x s e) ∙ ap (λ j. cond (is_condition s) (j ∷ []) []) (let q : k ≡ k + 0 = omega arith in q)
conditions-next (x ∷ ss) k (suc n) s e =
    ap (λ z. cond (is_condition x) (k ∷ z) z)
    (conditions-next ss (suc k) n s e
    ∙ ap (λ j. conditions_from (suc k) (take n ss) ++ cond (is_condition s) (j ∷ []) []) (let q : suc k + n ≡ k + suc n = omega arith in q))
    ∙ under (is_condition x) k (conditions_from (suc k) (take n ss)) (cond (is_condition s) ((k + suc n) ∷ []) [])

-- a condition in the list is at its position
pub record IsConditionAt (ss : List PlainStatement) (c : ℕ) : Type 0 where
  pub statement : PlainStatement
  pub there : slice_get ss c ≡ Some statement
  pub is : IsTrue (is_condition statement)

pub record IsFrom (ss : List PlainStatement) (k c : ℕ) : Type 0 where
  pub index : ℕ
  pub is : c ≡ k + index
  pub at : IsConditionAt ss index

from-later : (x : PlainStatement) (ss : List PlainStatement) (k c : ℕ) → IsFrom ss (suc k) c → IsFrom (x ∷ ss) k c
from-later x ss k c h = record { index = suc h.index; is = let e = h.is in omega arith; at = record { statement = h.at.statement; there = h.at.there; is = h.at.is } }

choose-from : (x : PlainStatement) (ss : List PlainStatement) (k c : ℕ) (b : Bool) → is_condition x ≡ b → (Has (conditions_from (suc k) ss) c → IsFrom ss (suc k) c) → Has (cond b (k ∷ conditions_from (suc k) ss) (conditions_from (suc k) ss)) c → IsFrom (x ∷ ss) k c
choose-from x ss k c true e rest (inl s) = record { index = 0; is = omega arith; at = record { statement = x; there = refl; is = e } }
choose-from x ss k c true e rest (inr h) = from-later x ss k c (rest h)
choose-from x ss k c false e rest h = from-later x ss k c (rest h)

pub condition-from : (ss : List PlainStatement) (k c : ℕ) → Has (conditions_from k ss) c → IsFrom ss k c
condition-from [] k c h = absurd h
condition-from (x ∷ ss) k c h = choose-from x ss k c (is_condition x) refl (condition-from ss (suc k) c) h

pub condition-in : (ss : List PlainStatement) (c : ℕ) → Has (conditions_from 0 ss) c → IsConditionAt ss c
condition-in ss c h =
    let f = condition-from ss 0 c h in
    let e : f.index ≡ c = let z = f.is in omega arith in
    subst (λ i. IsConditionAt ss i) e f.at

more-from : (b : Bool) (k c : ℕ) (z : List ℕ) → Has z c → Has (cond b (k ∷ z) z) c
more-from true k c z h = inr h
more-from false k c z h = h

here-from : (b : Bool) (k : ℕ) (z : List ℕ) → IsTrue b → Has (cond b (k ∷ z) z) k
here-from true k z h = inl refl
here-from false k z h = absurd (cc)

from-has : (ss : List PlainStatement) (k n : ℕ) (s : PlainStatement) → slice_get ss n ≡ Some s → IsTrue (is_condition s) → Has (conditions_from k ss) (k + n)
from-has [] k n s e t = absurd (cc)
from-has (x ∷ ss) k zero s e t =
    let q : k ≡ k + 0 = omega arith in
    subst (λ i. Has (conditions_from k (x ∷ ss)) i) q (here-from (is_condition x) k (conditions_from (suc k) ss) (subst (λ z. IsTrue (is_condition z)) (sym (same_Some x s e)) t))
from-has (x ∷ ss) k (suc n) s e t =
    let q : suc k + n ≡ k + suc n = omega arith in
    more-from (is_condition x) k (k + suc n) (conditions_from (suc k) ss) (subst (λ i. Has (conditions_from (suc k) ss) i) q (from-has ss (suc k) n s e t))

pub has-condition : (ss : List PlainStatement) (c : ℕ) (s : PlainStatement) → slice_get ss c ≡ Some s → IsTrue (is_condition s) → Has (conditions_from 0 ss) c
has-condition ss c s e t = let q : 0 + c ≡ c = omega arith in subst (λ i. Has (conditions_from 0 ss) i) q (from-has ss 0 c s e t)

-- one more statement, which is a condition or not
pub conditions-more : (ss : List PlainStatement) (n : ℕ) (s : PlainStatement) (b : Bool) → slice_get ss n ≡ Some s → b ≡ is_condition s → conditions_from 0 (take (n + 1) ss) ≡ conditions_from 0 (take n ss) ++ cond b (n ∷ []) []
conditions-more ss n s b e same =
    let q : n + 1 ≡ suc n = omega arith in
    let z : 0 + n ≡ n = omega arith in
    ap (λ j. conditions_from 0 (take j ss)) q ∙ conditions-next ss 0 n s e ∙ ap (λ j. conditions_from 0 (take n ss) ++ cond (is_condition s) (j ∷ []) []) z
    ∙ ap (λ v. conditions_from 0 (take n ss) ++ cond v (n ∷ []) []) (sym same)
