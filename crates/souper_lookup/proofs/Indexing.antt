-- The entries of a store, and its index.
use Rattle.std.proofs.Common.{◌≡◌, ℕ, zero, suc, ◌+◌, ◌<◌, ◌≤◌, ◌++◌, inl, inr, length, map, List, [], ◌∷◌, Bool, true, false, cond, ◌||◌, Option, Some, None, slice_set, refl, sym, ap, ◌∙◌, subst, arith, append-nil, append_assoc}
use Rattle.std.specs.Prelude.{String, if◌then◌else◌, bytes_eq, filter, nat_lt}
use Rattle.std.specs.List.{slice_get, list_any, position, position_or_len, AllByRecursion}
use Rattle.std.specs.String.{string_bytes, string_eq}
use Rattle.std.proofs.lemmas.Bool.{cases_lt, lt-ltb, both_ways, or_parts}
use Rattle.std.proofs.lemmas.List.{map-append, length-map, length_push}
use Rattle.std.proofs.lemmas.Bool.Decides.{nat_tests}
use Rattle.std.proofs.lemmas.Grind.{flat_map-append}
use Rattle.std.proofs.lemmas.Slice.Eq.{bytes_eq-Decides}
use Rattle.souper_graph.specs.Values.{Item}
use Rattle.souper_graph.specs.Text.{text_of}
use Rattle.souper_graph.specs.Renaming.{renamed, SameUpToNames}
use Rattle.souper_graph.specs.WellFormed.{WellFormed}
use Rattle.souper_graph.specs.Syntax.Spelling.{replacement, IsEndingOf}
use Rattle.souper_graph.proofs.Sameness.Renumbered.{ordered}
use Rattle.souper_graph.proofs.Sameness.Renaming.{graph-renamed, renamed-graph}
use Rattle.souper_ir.proofs.Items.OneText.{one_text}
use Rattle.souper_lookup.specs.Stored.{Entry, replacements_of, Storable, NoneIsSame, NoTwoAreSame, raised, has_left_key, left_key, indices_from, optional_list, elements_at, IsIndexOf}
use Rattle.std.proofs.lemmas.Option.{same_Some}
use Rattle.souper_lookup.proofs.Strings.{place_of}
use Rattle.souper_lookup.proofs.Grouping.{IsFiled}

-- ---- one text for each graph

-- two stored forms have one text if and only if they are the same graph up to names
pub one-text : (a b : Item) → Storable a → Storable b → (text_of a ≡ text_of b → SameUpToNames a b) × (SameUpToNames a b → text_of a ≡ text_of b)
one-text a b sa sb =
    let texts = one_text replacement (renamed a) (renamed b) (well a sa) (well b sb) in (
      (λ e. graph-renamed a b (ordered a sa.well_formed) (ordered b sb.well_formed) (texts.0 (ap text_of sa.named ∙ e ∙ sym (ap text_of sb.named)))),
      (λ s. sym (ap text_of sa.named) ∙ texts.1 (renamed-graph a b (ordered a sa.well_formed) (ordered b sb.well_formed) s) ∙ ap text_of sb.named),
    )
  where
    well : (x : Item) → Storable x → WellFormed (renamed x) × IsEndingOf replacement (renamed x).ending
    well x s = (subst (λ (z : Item). WellFormed z) (sym s.named) s.well_formed, subst (λ d. IsEndingOf replacement d) (sym s.ending) refl)

-- ---- lists

pub all-more : {X : Type 0} (P : X → Type 0) (xs : List X) (x : X) → AllByRecursion P xs → P x → AllByRecursion P (xs ++ x ∷ [])
all-more P [] x h p = (p, tt)
all-more P (y ∷ ys) x h p = (h.0, all-more P ys x h.1 p)

two-more : (xs : List Item) (x : Item) → NoTwoAreSame xs → NoneIsSame xs x → NoTwoAreSame (xs ++ x ∷ [])
two-more [] x h n = (tt, tt)
two-more (y ∷ ys) x h n = (all-more (λ b. SameUpToNames y b → ⊥) ys x h.0 n.0, two-more ys x h.1 n.1)

indices-more : {X : Type 0} (p : X → Bool) (k : ℕ) (xs : List X) (x : X) → indices_from p k (xs ++ x ∷ []) ≡ indices_from p k xs ++ (if p x then (k + length xs) ∷ [] else [])
indices-more p k [] x = under (p x)
  where
    under : (c : Bool) → (if c then k ∷ [] else []) ≡ (if c then (k + 0) ∷ [] else [])
    under true = ap (λ (n : ℕ). n ∷ []) (let e : k ≡ k + 0 = omega arith in e)
    under false = refl
indices-more p k (y ∷ ys) x = under (p y) (indices-more p (suc k) ys x ∙ ap (λ (n : ℕ). indices_from p (suc k) ys ++ (if p x then n ∷ [] else [])) (let e : suc k + length ys ≡ k + suc (length ys) = omega arith in e))
  where
    L : List ℕ
    L = if p x then (k + suc (length ys)) ∷ [] else []

    under : (c : Bool) → indices_from p (suc k) (ys ++ x ∷ []) ≡ indices_from p (suc k) ys ++ L →
        (if c then k ∷ indices_from p (suc k) (ys ++ x ∷ []) else indices_from p (suc k) (ys ++ x ∷ [])) ≡ (if c then k ∷ indices_from p (suc k) ys else indices_from p (suc k) ys) ++ L
    under true e = ap (λ (z : List ℕ). k ∷ z) e
    under false e = e

indices-map : {X Y : Type 0} (f : X → Y) (p : Y → Bool) (k : ℕ) (xs : List X) → indices_from p k (map f xs) ≡ indices_from (λ x. p (f x)) k xs
indices-map f p k [] = refl
indices-map f p k (x ∷ xs) = ap (λ (z : List ℕ). if p (f x) then k ∷ z else z) (indices-map f p (suc k) xs)

get-there : {X : Type 0} (front back : List X) (x : X) → slice_get (front ++ x ∷ back) (length front) ≡ Some x
get-there [] back x = refl
get-there (y ∷ front) back x = get-there front back x

-- the elements at the indices of the elements that pass a test
elements-from : {X : Type 0} (p : X → Bool) (front back : List X) → elements_at (front ++ back) (indices_from p (length front) back) ≡ filter p back
elements-from p front [] = refl
elements-from {X = X} p front (x ∷ back) = under (p x) (elements-from p (front ++ x ∷ []) back)
  where
    all : List X
    all = front ++ x ∷ back

    under : (c : Bool) → elements_at ((front ++ x ∷ []) ++ back) (indices_from p (length (front ++ x ∷ [])) back) ≡ filter p back →
        elements_at all (if c then length front ∷ indices_from p (suc (length front)) back else indices_from p (suc (length front)) back) ≡ (if c then x ∷ filter p back else filter p back)
    under c e = choose c (
        ap (λ (z : List X). elements_at z (indices_from p (suc (length front)) back)) (sym (append_assoc front (x ∷ []) back))
        ∙ ap (λ (n : ℕ). elements_at ((front ++ x ∷ []) ++ back) (indices_from p n back)) (let e = length_push front x in let f : suc (length front) ≡ length (front ++ x ∷ []) = omega arith in f)
        ∙ e)
      where
        choose : (c : Bool) → elements_at all (indices_from p (suc (length front)) back) ≡ filter p back →
            elements_at all (if c then length front ∷ indices_from p (suc (length front)) back else indices_from p (suc (length front)) back) ≡ (if c then x ∷ filter p back else filter p back)
        choose true e = ap (λ (o : Option X). optional_list o ++ elements_at all (indices_from p (suc (length front)) back)) (get-there front back x) ∙ ap (λ (z : List X). x ∷ z) e
        choose false e = e

-- one more index
pub elements-more : {X : Type 0} (xs : List X) (is : List ℕ) (i : ℕ) → elements_at xs (is ++ i ∷ []) ≡ elements_at xs is ++ optional_list (slice_get xs i)
elements-more {X = X} xs is i = flat_map-append (λ (k : ℕ). optional_list (slice_get xs k)) is (i ∷ []) ∙ ap (λ (z : List X). elements_at xs is ++ z) (append-nil (optional_list (slice_get xs i)))

pub elements-found : (entries : List Entry) (t : List ℕ) → elements_at entries (indices_from (has_left_key t) 0 (replacements_of entries)) ≡ filter (λ (e : Entry). has_left_key t e.replacement) entries
elements-found entries t =
    ap (elements_at entries) (indices-map (λ (e : Entry). e.replacement) (has_left_key t) 0 entries) ∙ elements-from (λ (e : Entry). has_left_key t e.replacement) [] entries

-- ---- one more entry

pub indexed-more : (items : List Item) (b : Item) (texts more ks new : List (List ℕ)) (gs hs : List (List ℕ)) → IsIndexOf items texts ks gs → Storable b → NoneIsSame items b → more ≡ texts ++ text_of b ∷ [] →
    IsFiled (left_key b) (length items) ks new gs hs → IsIndexOf (items ++ b ∷ []) more new hs
indexed-more items b texts more ks new gs hs x s none is f = record {
  each = all-more Storable items b x.each s;
  apart = two-more items b x.apart none;
  texts_are = is ∙ ap (λ (z : List (List ℕ)). z ++ text_of b ∷ []) x.texts_are ∙ sym (map-append text_of items (b ∷ []));
  paired = f.paired;
  grouped = λ t. f.grouped t ∙ ap (λ (z : List ℕ). z ++ (if bytes_eq t (left_key b) then length items ∷ [] else [])) (x.grouped t)
      ∙ sym (indices-more (has_left_key t) 0 items b ∙ ap (λ (n : ℕ). indices_from (has_left_key t) 0 items ++ (if bytes_eq t (left_key b) then n ∷ [] else [])) (let e : 0 + length items ≡ length items = omega arith in e));
}

-- no text of other graphs is the text of b
pub text-new : (items : List Item) (b : Item) → AllByRecursion Storable items → Storable b → NoneIsSame items b → list_any (bytes_eq (text_of b)) (map text_of items) ≡ false
text-new [] b all s none = refl
text-new (a ∷ items) b all s none = under (bytes_eq (text_of b) (text_of a)) refl (text-new items b all.1 s none.1)
  where
    under : (c : Bool) → bytes_eq (text_of b) (text_of a) ≡ c → list_any (bytes_eq (text_of b)) (map text_of items) ≡ false → (c || list_any (bytes_eq (text_of b)) (map text_of items)) ≡ false
    under true at rest = absurd (none.0 ((one-text a b all.0 s).0 (sym ((bytes_eq-Decides (text_of b) (text_of a)).0 at))))
    under false at rest = rest

-- a text that none has is the text of another graph
pub none-same : (items : List Item) (b : Item) → AllByRecursion Storable items → Storable b → list_any (bytes_eq (text_of b)) (map text_of items) ≡ false → NoneIsSame items b
none-same [] b all s e = tt
none-same (a ∷ items) b all s e =
    let parts = or_parts (bytes_eq (text_of b) (text_of a)) (list_any (bytes_eq (text_of b)) (map text_of items)) e in
    ((λ same. both_ways (bytes_eq (text_of b) (text_of a)) parts.0 ((bytes_eq-Decides (text_of b) (text_of a)).1 (sym ((one-text a b all.0 s).1 same)))), none-same items b all.1 s parts.1)

-- ---- one more of an entry

pub same-replacements : (entries : List Entry) (n : ℕ) (e : Entry) → slice_get entries n ≡ Some e → replacements_of (slice_set entries n (raised e)) ≡ replacements_of entries
same-replacements [] n e at = absurd (cc)
same-replacements (x ∷ entries) zero e at = ap (λ (z : Entry). z.replacement ∷ replacements_of entries) (sym (same_Some _ _ at))
same-replacements (x ∷ entries) (suc n) e at = ap (λ (z : List Item). x.replacement ∷ z) (same-replacements entries n e at)

-- the entry at the index of a text
text-at : (entries : List Entry) (n : ℕ) (t : List ℕ) → AllByRecursion Storable (replacements_of entries) → slice_get (map text_of (replacements_of entries)) n ≡ Some t →
    (e : Entry) × (slice_get entries n ≡ Some e) × (text_of e.replacement ≡ t) × Storable e.replacement
text-at [] n t all e = absurd (cc)
text-at (x ∷ entries) zero t all e = (x, refl, same_Some _ _ e, all.0)
text-at (x ∷ entries) (suc n) t all e = text-at entries n t all.1 e

passes : (t : List ℕ) (ks : List (List ℕ)) → position_or_len (bytes_eq t) ks < length ks → slice_get ks (position_or_len (bytes_eq t) ks) ≡ Some t
passes t [] l = absurd (omega arith)
passes t (k ∷ ks) l = under (bytes_eq t k) refl (λ m. passes t ks m)
  where
    next : (n : ℕ) → slice_get (k ∷ ks) (1 + n) ≡ slice_get ks n
    next n = let s : 1 + n ≡ suc n = omega arith in ap (λ (m : ℕ). slice_get (k ∷ ks) m) s

    under : (b : Bool) → bytes_eq t k ≡ b → (position_or_len (bytes_eq t) ks < length ks → slice_get ks (position_or_len (bytes_eq t) ks) ≡ Some t) → slice_get (k ∷ ks) (position_or_len (bytes_eq t) (k ∷ ks)) ≡ Some t
    under true at rest = rw at (ap (λ (z : List ℕ). Some z) (sym ((bytes_eq-Decides t k).0 at)))
    under false at rest = rw at (next (position_or_len (bytes_eq t) ks) ∙ rest (within at))
      where
        within : bytes_eq t k ≡ false → position_or_len (bytes_eq t) ks < length ks
        within at = let m = rw at at l in omega arith

-- an entry that is the same graph
pub record IsSameAt (entries : List Entry) (n : ℕ) (b : Item) : Type 0 where
  pub entry : Entry
  pub there : slice_get entries n ≡ Some entry
  pub same : SameUpToNames entry.replacement b

pub found-same : {M : Type 0} (entries : List Entry) (texts : List (String M)) (t : String M) (n : ℕ) (b : Item) → AllByRecursion Storable (replacements_of entries) → map string_bytes texts ≡ map text_of (replacements_of entries) → Storable b →
    string_bytes t ≡ text_of b → Some n ≡ position (string_eq t) texts → IsSameAt entries n b
found-same entries texts t n b all are s is at =
    let p = place-some (string_eq t) texts n (sym at) in
    let there : slice_get (map text_of (replacements_of entries)) n ≡ Some (string_bytes t) =
    ap (λ (z : List (List ℕ)). slice_get z n) (sym are) ∙ ap (slice_get (map string_bytes texts)) (p.0 ∙ place_of texts t)
    ∙ passes (string_bytes t) (map string_bytes texts) (let q = place_of texts t in let m = length-map texts string_bytes in let l = p.1 in omega arith) in
    let e = text-at entries n (string_bytes t) all there in
    record { entry = e.0; there = e.1; same = (one-text e.0.replacement b e.3 s).0 (e.2 ∙ is) }
  where
    place-some : {X : Type 0} (p : X → Bool) (xs : List X) (i : ℕ) → position p xs ≡ Some i → (i ≡ position_or_len p xs) × (position_or_len p xs < length xs)
    place-some p xs i e = elim (cases_lt (position_or_len p xs) (length xs)) [
      | inl lt ↦ (sym (same_Some _ _ (ap (λ (b : Bool). cond b (Some (position_or_len p xs)) None) (sym (lt-ltb (position_or_len p xs) (length xs) lt)) ∙ e)), lt)
      | inr le ↦ absurd (none (nat_lt (position_or_len p xs) (length xs)) (not-below le) e)
    ]
      where
        not-below : length xs ≤ position_or_len p xs → nat_lt (position_or_len p xs) (length xs) ≡ false
        not-below l = grind (arith, nat_tests)

        none : (b : Bool) → b ≡ false → cond b (Some (position_or_len p xs)) None ≡ Some i → ⊥
        none true f q = absurd (cc)
        none false f q = absurd (cc)
