-- Groups by their keys.
use Rattle.std.proofs.Common.{◌≡◌, ℕ, zero, suc, ◌+◌, ◌<◌, ◌++◌, length, map, List, [], ◌∷◌, Bool, true, false, ◌||◌, get_or, slice_set, refl, sym, ap, ◌∙◌, subst, arith, append-nil}
use Rattle.std.specs.Prelude.{String, if◌then◌else◌, bytes_eq}
use Rattle.std.specs.List.{list_any, position_or_len}
use Rattle.std.specs.String.{string_bytes, string_eq}
use Rattle.indexmap.specs.IndexSet.{insert_key}
use Rattle.std.proofs.lemmas.Bool.{or_parts}
use Rattle.std.proofs.lemmas.List.{length_push}
use Rattle.std.proofs.lemmas.Slice.Eq.{bytes_eq-Decides}
use Rattle.souper_lookup.specs.Stored.{group, IsPushed}
use Rattle.souper_lookup.proofs.Strings.{inserted, place_of}

apart : (t x k : List ℕ) → bytes_eq t k ≡ true → bytes_eq x k ≡ false → bytes_eq t x ≡ false
apart t x k e n = under (bytes_eq t x) refl
  where
    under : (b : Bool) → bytes_eq t x ≡ b → bytes_eq t x ≡ false
    under false at = at
    under true at =
        let same : x ≡ k = sym ((bytes_eq-Decides t x).0 at) ∙ (bytes_eq-Decides t k).0 e in
        let bad : true ≡ false = sym ((bytes_eq-Decides x k).1 same) ∙ n in absurd cc

either : (a b : Bool) → (a || b) ≡ true → a ≡ false → b ≡ true
either true b e f = absurd (cc)
either false b e f = e

-- the index of a key
abbrev pub here : List ℕ → List (List ℕ) → ℕ
here t ks = position_or_len (bytes_eq t) ks

-- the group of a key is at its index
pub group-at : {A : Type 0} (t : List ℕ) (ks : List (List ℕ)) (gs : List (List A)) → length ks ≡ length gs → group t ks gs ≡ get_or gs (here t ks) []
group-at t [] [] e = refl
group-at t [] (g ∷ gs) e = absurd (omega arith)
group-at t (k ∷ ks) [] e = absurd (omega arith)
group-at t (k ∷ ks) (g ∷ gs) e = under (bytes_eq t k) refl (group-at t ks gs (omega arith))
  where
    next : (n : ℕ) → get_or (g ∷ gs) (1 + n) [] ≡ get_or gs n []
    next n = let s : 1 + n ≡ suc n = omega arith in ap (λ (m : ℕ). get_or (g ∷ gs) m []) s

    under : (b : Bool) → bytes_eq t k ≡ b → group t ks gs ≡ get_or gs (here t ks) [] → group t (k ∷ ks) (g ∷ gs) ≡ get_or (g ∷ gs) (here t (k ∷ ks)) []
    under true at rest = rw at refl
    under false at rest = rw at (rest ∙ sym (next (here t ks)))

module _ {A : Type 0} (t x : List ℕ) (a : A) where
  one : (c : Bool) (g rest : List A) → (if c then g ++ a ∷ [] else rest) ≡ (if c then g else rest) ++ (if c then a ∷ [] else [])
  one true g rest = refl
  one false g rest = sym (append-nil rest)

  later : (k : List ℕ) (g rest : List A) → bytes_eq x k ≡ false → (c : Bool) → bytes_eq t k ≡ c → (r : List A) → r ≡ rest ++ (if bytes_eq t x then a ∷ [] else []) →
      (if c then g else r) ≡ (if c then g else rest) ++ (if bytes_eq t x then a ∷ [] else [])
  later k g rest un true at r ih = rw (apart t x k at un) (sym (append-nil g))
  later k g rest un false at r ih = ih

  -- one more in a group
  again : (ks : List (List ℕ)) (gs : List (List A)) → length ks ≡ length gs → list_any (bytes_eq x) ks ≡ true →
      group t ks (slice_set gs (here x ks) (get_or gs (here x ks) [] ++ a ∷ [])) ≡ group t ks gs ++ (if bytes_eq t x then a ∷ [] else [])
  again [] gs e found = absurd (cc)
  again (k ∷ ks) [] e found = absurd (omega arith)
  again (k ∷ ks) (g ∷ gs) e found = under (bytes_eq x k) refl (λ f. again ks gs (omega arith) f)
    where
      set-next : (n : ℕ) → slice_set (g ∷ gs) (1 + n) (get_or (g ∷ gs) (1 + n) [] ++ a ∷ []) ≡ g ∷ slice_set gs n (get_or gs n [] ++ a ∷ [])
      set-next n = let s : 1 + n ≡ suc n = omega arith in ap (λ (m : ℕ). slice_set (g ∷ gs) m (get_or (g ∷ gs) m [] ++ a ∷ [])) s

      under : (b : Bool) → bytes_eq x k ≡ b → (list_any (bytes_eq x) ks ≡ true → group t ks (slice_set gs (here x ks) (get_or gs (here x ks) [] ++ a ∷ [])) ≡ group t ks gs ++ (if bytes_eq t x then a ∷ [] else [])) →
          group t (k ∷ ks) (slice_set (g ∷ gs) (here x (k ∷ ks)) (get_or (g ∷ gs) (here x (k ∷ ks)) [] ++ a ∷ [])) ≡ group t (k ∷ ks) (g ∷ gs) ++ (if bytes_eq t x then a ∷ [] else [])
      under true at ih =
          let same : k ≡ x = sym ((bytes_eq-Decides x k).0 at) in
          rw at (one (bytes_eq t k) g (group t ks gs) ∙ ap (λ (z : List ℕ). group t (k ∷ ks) (g ∷ gs) ++ (if bytes_eq t z then a ∷ [] else [])) same)
      under false at ih =
          let f : list_any (bytes_eq x) ks ≡ true = either (bytes_eq x k) (list_any (bytes_eq x) ks) found at in
          rw at (ap (λ (z : List (List A)). group t (k ∷ ks) z) (set-next (here x ks))
          ∙ later k g (group t ks gs) at (bytes_eq t k) refl (group t ks (slice_set gs (here x ks) (get_or gs (here x ks) [] ++ a ∷ []))) (ih f))

  -- a new group
  anew : (ks : List (List ℕ)) (gs : List (List A)) → length ks ≡ length gs → list_any (bytes_eq x) ks ≡ false →
      group t (ks ++ x ∷ []) (gs ++ (a ∷ []) ∷ []) ≡ group t ks gs ++ (if bytes_eq t x then a ∷ [] else [])
  anew [] [] e found = refl
  anew [] (g ∷ gs) e found = absurd (omega arith)
  anew (k ∷ ks) [] e found = absurd (omega arith)
  anew (k ∷ ks) (g ∷ gs) e found =
      let n = or_parts (bytes_eq x k) (list_any (bytes_eq x) ks) found in
      later k g (group t ks gs) n.0 (bytes_eq t k) refl (group t (ks ++ x ∷ []) (gs ++ (a ∷ []) ∷ [])) (anew ks gs (omega arith) n.1)

-- where a key is that is there, or not
found-within : (x : List ℕ) (ks : List (List ℕ)) → list_any (bytes_eq x) ks ≡ true → here x ks < length ks
found-within x [] e = absurd (cc)
found-within x (k ∷ ks) e = under (bytes_eq x k) refl (λ f. found-within x ks f)
  where
    under : (b : Bool) → bytes_eq x k ≡ b → (list_any (bytes_eq x) ks ≡ true → here x ks < length ks) → here x (k ∷ ks) < length (k ∷ ks)
    under true at ih = rw at (omega arith)
    under false at ih = let l = ih (either (bytes_eq x k) (list_any (bytes_eq x) ks) e at) in rw at (omega arith)

not-found : (x : List ℕ) (ks : List (List ℕ)) → list_any (bytes_eq x) ks ≡ false → here x ks ≡ length ks
not-found x [] e = refl
not-found x (k ∷ ks) e = let n = or_parts (bytes_eq x k) (list_any (bytes_eq x) ks) e in let l = not-found x ks n.1 in rw (n.0) (omega arith)

length-set : {X : Type 0} (xs : List X) (n : ℕ) (x : X) → length (slice_set xs n x) ≡ length xs
length-set [] n x = refl
length-set (y ∷ ys) zero x = refl
length-set (y ∷ ys) (suc n) x = ap suc (length-set ys n x)

-- an element was put into the group of its key
pub record IsFiled {A : Type 0} (x : List ℕ) (a : A) (ks new : List (List ℕ)) (gs hs : List (List A)) : Type 0 where
  pub paired : length new ≡ length hs
  pub grouped : (t : List ℕ) → group t new hs ≡ group t ks gs ++ (if bytes_eq t x then a ∷ [] else [])

filed-bytes : {A : Type 0} (x : List ℕ) (a : A) (ks new : List (List ℕ)) (gs hs : List (List A)) → length ks ≡ length gs →
    new ≡ (if list_any (bytes_eq x) ks then ks else ks ++ x ∷ []) → IsPushed gs (here x ks) a hs → IsFiled x a ks new gs hs
filed-bytes {A = A} x a ks new gs hs paired keys pushed = under (list_any (bytes_eq x) ks) refl keys
  where
    under : (b : Bool) → list_any (bytes_eq x) ks ≡ b → new ≡ (if b then ks else ks ++ x ∷ []) → IsFiled x a ks new gs hs
    under true at e =
        let l = found-within x ks at in
        let hs-is = pushed.0 (omega arith) in
        record {
          paired = let p = ap (λ (z : List (List ℕ)). length z) e in let q = ap (λ (z : List (List A)). length z) hs-is in let r = length-set gs (here x ks) (get_or gs (here x ks) [] ++ a ∷ []) in omega arith;
          grouped = λ t. (λ j. group t (e j) (hs-is j)) ∙ again t x a ks gs paired at;
        }
    under false at e =
        let l = not-found x ks at in
        let hs-is = pushed.1 (omega arith) in
        record {
          paired = let p = ap (λ (z : List (List ℕ)). length z) e in let q = ap (λ (z : List (List A)). length z) hs-is in let r = length_push gs (a ∷ []) in let o = length_push ks x in omega arith;
          grouped = λ t. (λ j. group t (e j) (hs-is j)) ∙ anew t x a ks gs paired at;
        }

pub filed : {M A : Type 0} (key : String M) (a : A) (ks new : List (String M)) (gs hs : List (List A)) → length (map string_bytes ks) ≡ length gs →
    new ≡ insert_key string_eq ks key → IsPushed gs (position_or_len (string_eq key) ks) a hs → IsFiled (string_bytes key) a (map string_bytes ks) (map string_bytes new) gs hs
filed key a ks new gs hs paired keys pushed =
    filed-bytes (string_bytes key) a (map string_bytes ks) (map string_bytes new) gs hs paired (ap (map string_bytes) keys ∙ inserted ks key)
    (subst (λ (n : ℕ). IsPushed gs n a hs) (place_of ks key) pushed)
