-- A map that takes no two positions to one has an inverse.
use Rattle.std.proofs.Common.{◌≡◌, ℕ, zero, suc, ◌+◌, ◌<◌, inl, inr, List, [], ◌∷◌, Option, Some, None, Bool, true, false, refl, sym, ap, ◌∙◌, subst, arith}
use Rattle.std.specs.Prelude.{if◌then◌else◌, nat_eq, slice_get}
use Rattle.std.proofs.lemmas.Option.{same_Some}
use Rattle.std.proofs.lemmas.Bool.{cases_order}
use Rattle.std.proofs.lemmas.Bool.Decides.{Decides-eqb}
use Rattle.souper_embedding.specs.Maps.{GoesTo, Binds, IsOneToOne}
use Rattle.souper_embedding.proofs.Walking.{one-image}

-- the first position that goes to q, if the first of these has position k
abbrev pub inverse_from : ℕ → List (Option ℕ) → ℕ → ℕ
inverse_from k [] q = 0
inverse_from k (None ∷ m) q = inverse_from (suc k) m q
inverse_from k (Some r ∷ m) q = if nat_eq r q then k else inverse_from (suc k) m q

-- where it is
pub record IsInverseAt (k : ℕ) (m : List (Option ℕ)) (q : ℕ) : Type 0 where
  pub index : ℕ
  pub is : inverse_from k m q ≡ k + index
  pub there : GoesTo m index q

later : (x : Option ℕ) (k : ℕ) (m : List (Option ℕ)) (q : ℕ) (v : ℕ) → v ≡ inverse_from (suc k) m q → (h : IsInverseAt (suc k) m q) → v ≡ k + suc h.index
later x k m q v e h = let z = h.is in omega arith

choose-inverse : (k : ℕ) (m : List (Option ℕ)) (r q : ℕ) (b : Bool) → nat_eq r q ≡ b → (p : ℕ) → GoesTo (Some r ∷ m) p q → ((n : ℕ) → GoesTo m n q → IsInverseAt (suc k) m q) → IsInverseAt k (Some r ∷ m) q
choose-inverse k m r q true e p g rest = record { index = 0; is = rw e (let z : k ≡ k + 0 = omega arith in z); there = ap (λ z. Some (Some z)) ((Decides-eqb r q).0 e) }
choose-inverse k m r q false e zero g rest = absurd (let z : r ≡ q = same_Some r q (same_Some (Some r) (Some q) g) in let t = (Decides-eqb r q).1 z in let f : false ≡ true = sym e ∙ t in cc)
choose-inverse k m r q false e (suc p) g rest = let h = rest p g in record { index = suc h.index; is = rw e (later (Some r) k m q (inverse_from (suc k) m q) refl h); there = h.there }

inverse-at : (k : ℕ) (m : List (Option ℕ)) (p q : ℕ) → GoesTo m p q → IsInverseAt k m q
inverse-at k [] p q g = absurd (cc)
inverse-at k (None ∷ m) zero q g = absurd (let z : None ≡ Some q = same_Some _ _ g in cc)
inverse-at k (None ∷ m) (suc p) q g = let h = inverse-at (suc k) m p q g in record { index = suc h.index; is = later None k m q (inverse_from (suc k) m q) refl h; there = h.there }
inverse-at k (Some r ∷ m) p q g = choose-inverse k m r q (nat_eq r q) refl p g (λ n h. inverse-at (suc k) m n q h)

abbrev pub inverse : List (Option ℕ) → ℕ → ℕ
inverse m q = inverse_from 0 m q

pub inverse-is : (m : List (Option ℕ)) (p q : ℕ) → IsOneToOne m → GoesTo m p q → inverse m q ≡ p
inverse-is m p q one g =
    let h = inverse-at 0 m p q g in
    let same : h.index ≡ p = one h.index p q h.there g in
    let z = h.is in omega arith

-- ---- the inverse is written position by position

-- each of the first n positions stands where its image is
abbrev pub Inverts : List (Option ℕ) → List (Option ℕ) → ℕ → Type 0
Inverts to from n = (p q : ℕ) → p < n → GoesTo to p q → GoesTo from q p

pub inverts-more : (to from new : List (Option ℕ)) (p q : ℕ) → GoesTo to p q → Binds from new (q ∷ []) → GoesTo new q p → Inverts to from p → Inverts to new (p + 1)
inverts-more to from new p q at b goes h r s l g = elim (cases_order r p) [
  | inl e ↦ (
      let same : q ≡ s = one-image to p q s at (subst (λ z. GoesTo to z s) e g) in
      subst (λ z. GoesTo new s z) (sym e) (subst (λ z. GoesTo new z p) same goes))
  | inr o ↦ elim o [ inl a ↦ b.kept s r (h r s a g) | inr a ↦ absurd (omega arith) ]
]

pub inverts-past : (to from : List (Option ℕ)) (p : ℕ) → slice_get to p ≡ Some None → Inverts to from p → Inverts to from (p + 1)
inverts-past to from p none h r s l g = elim (cases_order r p) [
  | inl e ↦ absurd (let z : slice_get to p ≡ Some (Some s) = subst (λ z. GoesTo to z s) e g in let y : Some None ≡ Some (Some s) = sym none ∙ z in let x : None ≡ Some s = same_Some None (Some s) y in cc)
  | inr o ↦ elim o [ inl a ↦ h r s a g | inr a ↦ absurd (omega arith) ]
]
