-- Lists whose elements are changed, each by itself.
use Rattle.std.proofs.Common.{◌≡◌, List, [], ◌∷◌, ◌++◌, map, refl, ap, ◌∙◌}
use Rattle.std.specs.List.{AllByRecursion}

pub map-again : {A : Type 0} (h : A → A) → ((x : A) → h (h x) ≡ h x) → (xs : List A) → map h (map h xs) ≡ map h xs
map-again h e [] = refl
map-again {A} h e (x ∷ xs) = ap (λ (z : A). z ∷ map h (map h xs)) (e x) ∙ ap (λ (z : List A). h x ∷ z) (map-again h e xs)

pub all-map : {A B : Type 0} (P : A → Type 0) (Q : B → Type 0) (h : A → B) → ((x : A) → P x → Q (h x)) → (xs : List A) → AllByRecursion P xs → AllByRecursion Q (map h xs)
all-map P Q h k [] p = tt
all-map P Q h k (x ∷ xs) p = (k x p.0, all-map P Q h k xs p.1)

pub all-to : {A : Type 0} (P Q : A → Type 0) → ((x : A) → P x → Q x) → (xs : List A) → AllByRecursion P xs → AllByRecursion Q xs
all-to P Q k [] p = tt
all-to P Q k (x ∷ xs) p = (k x p.0, all-to P Q k xs p.1)
