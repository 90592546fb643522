-- The first embedding is determined: its map, and where it takes the path conditions.
use Rattle.std.proofs.Common.{◌≡◌, ℕ, suc, ◌⊎◌, inl, inr, length, List, [], ◌∷◌, Option, Some, None, refl, sym, ap, ◌∙◌, subst, arith}
use Rattle.std.proofs.lemmas.Option.{same_Some}
use Rattle.std.proofs.lemmas.Bool.{cases_order}
use Rattle.souper_graph.specs.Values.{Item}
use Rattle.souper_graph.specs.LeftSides.{infer_of}
use Rattle.souper_embedding.specs.Images.{AreImages, Precedes, IsEmbedding, IsLater, IsFirst}
use Rattle.souper_embedding.specs.Maps.{GoesTo, Follows}
use Rattle.souper_embedding.proofs.Listing.{one-list}
use Rattle.souper_embedding.proofs.Starting.{total_of, total-follows}

precedes-or : (ds es : List ℕ) → length ds ≡ length es → (ds ≡ es) ⊎ (Precedes ds es ⊎ Precedes es ds)
precedes-or [] [] l = inl refl
precedes-or [] (e ∷ es) l = absurd (omega arith)
precedes-or (d ∷ ds) [] l = absurd (omega arith)
precedes-or (d ∷ ds) (e ∷ es) l = elim (cases_order d e) [
  | inl s ↦ elim (precedes-or ds es (omega arith)) [
    | inl a ↦ inl (ap (λ z. z ∷ ds) s ∙ ap (λ z. e ∷ z) a)
    | inr o ↦ elim o [ inl a ↦ inr (inl (inr (s, a))) | inr a ↦ inr (inr (inr (sym s, a))) ]
  ]
  | inr o ↦ elim o [ inl a ↦ inr (inl (inl a)) | inr a ↦ inr (inr (inl a)) ]
]

never-both : (ds es : List ℕ) → Precedes ds es → Precedes es ds → ⊥
never-both [] es h k = h
never-both (d ∷ ds) [] h k = h
never-both (d ∷ ds) (e ∷ es) (inl a) (inl b) = omega arith
never-both (d ∷ ds) (e ∷ es) (inl a) (inr k) = let s = k.0 in omega arith
never-both (d ∷ ds) (e ∷ es) (inr h) (inl b) = let s = h.0 in omega arith
never-both (d ∷ ds) (e ∷ es) (inr h) (inr k) = never-both ds es h.1 k.1

-- a function has one list of images
same-images : (s q : Item) (f : ℕ → ℕ) (xs ys : List ℕ) → AreImages s q f xs → AreImages s q f ys → xs ≡ ys
same-images s q f xs ys h k = elim (precedes-or xs ys (h.long ∙ sym k.long)) [
  | inl e ↦ e
  | inr o ↦ elim o [
    | inl a ↦ absurd (one-list s.statements q.statements f xs ys h.long h.there h.first k.there k.first a)
    | inr a ↦ absurd (one-list s.statements q.statements f ys xs k.long k.there k.first h.there h.first a)
  ]
]

same-head : (x y : Option ℕ) → ((k : ℕ) → x ≡ Some k → y ≡ Some k) → ((k : ℕ) → y ≡ Some k → x ≡ Some k) → x ≡ y
same-head None None h k = refl
same-head None (Some b) h k = k b refl
same-head (Some a) y h k = sym (h a refl)

same-maps : (m n : List (Option ℕ)) → length m ≡ length n → ((p k : ℕ) → GoesTo m p k → GoesTo n p k) → ((p k : ℕ) → GoesTo n p k → GoesTo m p k) → m ≡ n
same-maps [] [] l h k = refl
same-maps [] (y ∷ n) l h k = absurd (omega arith)
same-maps (x ∷ m) [] l h k = absurd (omega arith)
same-maps (x ∷ m) (y ∷ n) l h k =
    let head : x ≡ y = same-head x y (λ a e. same_Some y (Some a) (h 0 a (ap (λ z. Some z) e))) (λ a e. same_Some x (Some a) (k 0 a (ap (λ z. Some z) e))) in
    let rest : m ≡ n = same-maps m n (omega arith) (λ p a g. h (suc p) a g) (λ p a g. k (suc p) a g) in
    ap (λ z. z ∷ m) head ∙ ap (λ z. y ∷ z) rest

-- two maps that one function follows
goes-too : (s q : Item) (m n : List (Option ℕ)) (x y : List ℕ) (f : ℕ → ℕ) → IsEmbedding s q m x → IsEmbedding s q n y → Follows m f → Follows n f → (p k : ℕ) → GoesTo m p k → GoesTo n p k
goes-too s q m n x y f a b wm wn p k g =
    let e = a.embeds f wm in
    let line = ap infer_of e.stored in
    let there = (b.known e.infer line p).1 ((a.known e.infer line p).0 (k, g)) in
    let same : there.0 ≡ k = sym (wn p there.0 there.1) ∙ wm p k g in
    subst (λ z. GoesTo n p z) same there.1

same-embedding : (s q : Item) (m n : List (Option ℕ)) (x y : List ℕ) (f : ℕ → ℕ) → IsEmbedding s q m x → IsEmbedding s q n y → Follows m f → Follows n f → (m ≡ n) × (x ≡ y)
same-embedding s q m n x y f a b wm wn = (
  same-maps m n (a.long ∙ sym b.long) (goes-too s q m n x y f a b wm wn) (goes-too s q n m y x f b a wn wm),
  same-images s q f x y (a.taken f wm) (b.taken f wn),
)

later-precedes : (s q : Item) (m : List (Option ℕ)) (x y : List ℕ) → IsEmbedding s q m x → IsLater s q y (total_of m) → Precedes y x
later-precedes s q m x y a h = subst (λ z. Precedes y z) (same-images s q (total_of m) h.0 x h.1 (a.taken (total_of m) (total-follows m))) h.2

pub first-determined : (s q : Item) (m n : List (Option ℕ)) (x y : List ℕ) → IsFirst s q m x → IsFirst s q n y → (m ≡ n) × (x ≡ y)
first-determined s q m n x y a b = elim (b.first (total_of m) (a.is.embeds (total_of m) (total-follows m))) [
  | inl w ↦ same-embedding s q m n x y (total_of m) a.is b.is (total-follows m) w
  | inr h ↦ elim (a.first (total_of n) (b.is.embeds (total_of n) (total-follows n))) [
    | inl w ↦ same-embedding s q m n x y (total_of n) a.is b.is w (total-follows n)
    | inr k ↦ absurd (never-both y x (later-precedes s q m x y a.is h) (later-precedes s q n y x b.is k))
  ]
]
