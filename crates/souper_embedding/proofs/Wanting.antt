-- The demanded bits of one attribute, and of a list of them; bits that are known.
use Rattle.std.proofs.Common.{◌≡◌, ℕ, ◌+◌, ◌<◌, List, [], ◌∷◌, length, map, take, get_or, true, false, Bool, Option, Some, None, refl, subst, inl, inr}
use Rattle.std.specs.Prelude.{slice_get}
use Rattle.std.specs.Bool.{Decides}
use Rattle.std.specs.Option.{option_eq}
use mathlib.Core.Bool.{beq}
use lib.Pointwise.{pointwise}
use Rattle.std.proofs.lemmas.Slice.Eq.{slice_eq-Decides}
use Rattle.souper_graph.specs.Uses.{Has}
use Rattle.souper_graph.specs.Values.{PlainRootAttribute, demanded_bits, harvested_from_use}
use Rattle.souper_embedding.specs.Embedding.{IsUnwanted, WantsWithin}
use Rattle.souper_embedding.proofs.Listed.{has-item, more-cases}

one-list : (xs ys : List Bool) → Has (demanded_bits xs ∷ []) (demanded_bits ys) → ys ≡ xs
one-list xs ys (inl e) = cc
one-list xs ys (inr h) = absurd h

pub wants-bits : (bits : List Bool) (query : List PlainRootAttribute) → (((k : ℕ) → slice_get bits k ≡ Some false → IsUnwanted query k) → WantsWithin (demanded_bits bits ∷ []) query)
    × (WantsWithin (demanded_bits bits ∷ []) query → (k : ℕ) → slice_get bits k ≡ Some false → IsUnwanted query k)
wants-bits bits query = (
  (λ h k u. h k (subst (λ z. slice_get z k ≡ Some false) (one-list bits u.0 u.1) u.2)),
  (λ h k e. h k (bits, inl refl, e)),
)

not-harvested : (bits : List Bool) → Has (harvested_from_use ∷ []) (demanded_bits bits) → ⊥
not-harvested bits (inl e) = absurd (cc)
not-harvested bits (inr h) = h

pub wants-none : (query : List PlainRootAttribute) → WantsWithin (harvested_from_use ∷ []) query
wants-none query = λ k u. absurd (not-harvested u.0 u.1)

pub wants-more : {X : Type 0} (v : X → PlainRootAttribute) (xs : List X) (n : ℕ) (x : X) (query : List PlainRootAttribute) → n < length xs → x ≡ get_or xs n x → WantsWithin (map v (take n xs)) query → WantsWithin (v x ∷ []) query
    → WantsWithin (map v (take (n + 1) xs)) query
wants-more v xs n x query l e h one k u = elim (more-cases v xs n x (demanded_bits u.0) l e u.1) [ inl a ↦ h k (u.0, a, u.2) | inr s ↦ one k (u.0, inl s, u.2) ]

pub wants-one : {X : Type 0} (v : X → PlainRootAttribute) (xs : List X) (n : ℕ) (x : X) (query : List PlainRootAttribute) → n < length xs → x ≡ get_or xs n x → WantsWithin (map v xs) query → WantsWithin (v x ∷ []) query
wants-one v xs n x query l e h k u = h k (u.0, elim u.1 [ inl s ↦ subst (λ z. Has (map v xs) z) s (has-item v xs n x l e) | inr m ↦ absurd m ], u.2)

optional-bools : (a b : Option Bool) → Decides (option_eq beq a b) (a ≡ b)
optional-bools None None = ((λ t. refl), (λ e. refl))
optional-bools None (Some x) = ((λ t. absurd (cc)), (λ e. absurd (cc)))
optional-bools (Some x) None = ((λ t. absurd (cc)), (λ e. absurd (cc)))
optional-bools (Some true) (Some true) = ((λ t. refl), (λ e. refl))
optional-bools (Some true) (Some false) = ((λ t. absurd (cc)), (λ e. absurd (let z : true ≡ false = cc in cc)))
optional-bools (Some false) (Some true) = ((λ t. absurd (cc)), (λ e. absurd (let z : false ≡ true = cc in cc)))
optional-bools (Some false) (Some false) = ((λ t. refl), (λ e. refl))

pub same-bits : (xs ys : List (Option Bool)) (r : Bool) → r ≡ pointwise (option_eq beq) xs ys → Decides r (xs ≡ ys)
same-bits xs ys r e = slice_eq-Decides optional-bools xs ys r e
