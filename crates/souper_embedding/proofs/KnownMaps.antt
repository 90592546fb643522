-- Maps that are known at some positions: one more, and one after another.
use Rattle.std.proofs.Common.{◌≡◌, ℕ, zero, suc, ◌+◌, ◌<◌, ◌++◌, ◌⊎◌, inl, inr, length, List, [], ◌∷◌, Option, Some, None, refl, sym, ap, ◌∙◌, subst, arith}
use Rattle.std.specs.Prelude.{slice_get, slice_set}
use Rattle.std.proofs.lemmas.Option.{same_Some}
use Rattle.std.proofs.lemmas.Bool.{cases_order}
use Rattle.souper_graph.specs.Uses.{Has}
use Rattle.souper_graph.proofs.Lists.{Has-left, Has-right, Has-cases}
use Rattle.souper_embedding.specs.Maps.{GoesTo, Follows, Binds, IsUnknown}

pub get-same : {X : Type 0} (xs : List X) (p : ℕ) (v : X) → p < length xs → slice_get (slice_set xs p v) p ≡ Some v
get-same [] p v l = absurd (omega arith)
get-same (x ∷ xs) zero v l = refl
get-same (x ∷ xs) (suc p) v l = get-same xs p v (omega arith)

pub get-other : {X : Type 0} (xs : List X) (p r : ℕ) (v : X) → (r ≡ p → ⊥) → slice_get (slice_set xs p v) r ≡ slice_get xs r
get-other [] p r v n = refl
get-other (x ∷ xs) zero zero v n = absurd (n refl)
get-other (x ∷ xs) zero (suc r) v n = refl
get-other (x ∷ xs) (suc p) zero v n = refl
get-other (x ∷ xs) (suc p) (suc r) v n = get-other xs p r v (λ e. n (ap (λ z. suc z) e))

pub set-long : {X : Type 0} (xs : List X) (p : ℕ) (v : X) → length (slice_set xs p v) ≡ length xs
set-long [] p v = refl
set-long (x ∷ xs) zero v = refl
set-long (x ∷ xs) (suc p) v = ap (λ z. suc z) (set-long xs p v)

equal-or : (r p : ℕ) → (r ≡ p) ⊎ (r ≡ p → ⊥)
equal-or r p = elim (cases_order r p) [ inl e ↦ inl e | inr o ↦ inr (λ e. elim o [ inl a ↦ omega arith | inr b ↦ omega arith ]) ]

-- nothing more is known
pub binds-none : (m : List (Option ℕ)) → Binds m m []
binds-none m = record { long = refl; kept = λ p q g. g; only = λ p q g. inl g; known = λ p h. absurd h }

-- p is known already
pub binds-known : (m : List (Option ℕ)) (p q : ℕ) → GoesTo m p q → Binds m m (p ∷ [])
binds-known m p q g = record { long = refl; kept = λ r s h. h; only = λ r s h. inl h; known = known }
  where
    known : (r : ℕ) → Has (p ∷ []) r → (s : ℕ) × GoesTo m r s
    known r (inl e) = (q, subst (λ z. GoesTo m z q) e g)
    known r (inr h) = absurd h

-- p is new
pub binds-new : (m : List (Option ℕ)) (p q : ℕ) → p < length m → slice_get m p ≡ Some None → Binds m (slice_set m p (Some q)) (p ∷ [])
binds-new m p q l none = record { long = set-long m p (Some q); kept = kept; only = only; known = known }
  where
    kept : (r s : ℕ) → GoesTo m r s → GoesTo (slice_set m p (Some q)) r s
    kept r s g = get-other m p r (Some q) (λ e. let z : slice_get m p ≡ Some (Some s) = subst (λ k. GoesTo m k s) e g in absurd (cc)) ∙ g

    only : (r s : ℕ) → GoesTo (slice_set m p (Some q)) r s → GoesTo m r s ⊎ Has (p ∷ []) r
    only r s g = elim (equal-or r p) [ inl e ↦ inr (inl (sym e)) | inr n ↦ inl (sym (get-other m p r (Some q) n) ∙ g) ]

    known : (r : ℕ) → Has (p ∷ []) r → (s : ℕ) × GoesTo (slice_set m p (Some q)) r s
    known r (inl e) = (q, subst (λ z. GoesTo (slice_set m p (Some q)) z q) e (get-same m p (Some q) l))
    known r (inr h) = absurd h

pub follows-new : (m : List (Option ℕ)) (p q : ℕ) (f : ℕ → ℕ) → p < length m → Follows m f → f p ≡ q → Follows (slice_set m p (Some q)) f
follows-new m p q f l h e r s g = elim (equal-or r p) [
  | inl same ↦ (let z : Some (Some q) ≡ Some (Some s) = sym (get-same m p (Some q) l) ∙ subst (λ k. slice_get (slice_set m p (Some q)) k ≡ Some (Some s)) same g in
      let qs : q ≡ s = same_Some q s (same_Some (Some q) (Some s) z) in ap f same ∙ e ∙ qs)
  | inr n ↦ h r s (sym (get-other m p r (Some q) n) ∙ g)
]

-- one after another
pub binds-both : (a b c : List (Option ℕ)) (ps rs : List ℕ) → Binds a b ps → Binds b c rs → Binds a c (ps ++ rs)
binds-both a b c ps rs h k = record {
  long = k.long ∙ h.long;
  kept = λ p q g. k.kept p q (h.kept p q g);
  only = λ p q g. elim (k.only p q g) [ inl x ↦ elim (h.only p q x) [ inl y ↦ inl y | inr y ↦ inr (Has-left ps rs p y) ] | inr x ↦ inr (Has-right ps rs p x) ];
  known = λ p m. elim (Has-cases ps rs p m) [ inl x ↦ (let y = h.known p x in (y.0, k.kept p y.0 y.1)) | inr x ↦ k.known p x ];
}

-- what follows the new map follows the old one
pub follows-old : (a b : List (Option ℕ)) (ps : List ℕ) (f : ℕ → ℕ) → Binds a b ps → Follows b f → Follows a f
follows-old a b ps f h w p q g = w p q (h.kept p q g)

pub unknown-none : IsUnknown []
unknown-none p q g = absurd (cc)

-- one more position where the map is not known
pub unknown-more : (m : List (Option ℕ)) → IsUnknown m → IsUnknown (m ++ None ∷ [])
unknown-more [] h zero q g = absurd (let z : None ≡ Some q = same_Some None (Some q) g in cc)
unknown-more [] h (suc p) q g = absurd (cc)
unknown-more (x ∷ m) h zero q g = h zero q g
unknown-more (x ∷ m) h (suc p) q g = unknown-more m (λ r s k. h (suc r) s k) p q g

one-longer : (m : List (Option ℕ)) → length (m ++ None ∷ []) ≡ suc (length m)
one-longer [] = refl
one-longer (x ∷ m) = ap (λ z. suc z) (one-longer m)

pub long-last : (m : List (Option ℕ)) (k : ℕ) → length m ≡ k → length (m ++ None ∷ []) ≡ k + 1
long-last m k e = one-longer m ∙ (let z : suc (length m) ≡ k + 1 = omega arith in z)
