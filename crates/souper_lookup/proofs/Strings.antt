-- Lists of strings by their bytes.
use Rattle.std.proofs.Common.{◌≡◌, ℕ, ◌+◌, ◌++◌, map, List, [], ◌∷◌, Bool, true, false, not, ◌||◌, refl, ap}
use Rattle.std.specs.Prelude.{String, if◌then◌else◌, bytes_eq}
use Rattle.std.specs.List.{list_any, position_or_len}
use Rattle.std.specs.String.{string_bytes, string_eq}
use Rattle.indexmap.specs.IndexSet.{insert_key}
use Rattle.std.proofs.lemmas.List.{map-append}

pub among : {M : Type 0} (t : List ℕ) (ks : List (String M)) → list_any (λ s. bytes_eq t (string_bytes s)) ks ≡ list_any (bytes_eq t) (map string_bytes ks)
among t [] = refl
among t (s ∷ ks) = ap (λ (b : Bool). bytes_eq t (string_bytes s) || b) (among t ks)

-- a key that is inserted
pub inserted : {M : Type 0} (ks : List (String M)) (t : String M) → map string_bytes (insert_key string_eq ks t)
    ≡ (if list_any (bytes_eq (string_bytes t)) (map string_bytes ks) then map string_bytes ks else map string_bytes ks ++ string_bytes t ∷ [])
inserted ks t = rw (among (string_bytes t) ks) (under (list_any (bytes_eq (string_bytes t)) (map string_bytes ks)) refl)
  where
    under : (b : Bool) → list_any (bytes_eq (string_bytes t)) (map string_bytes ks) ≡ b
        → map string_bytes (if list_any (bytes_eq (string_bytes t)) (map string_bytes ks) then ks else ks ++ t ∷ [])
        ≡ (if list_any (bytes_eq (string_bytes t)) (map string_bytes ks) then map string_bytes ks else map string_bytes ks ++ string_bytes t ∷ [])
    under true at = rw at refl
    under false at = rw at (map-append string_bytes ks (t ∷ []))

-- the place of a key
pub place_of : {M : Type 0} (ks : List (String M)) (t : String M) → position_or_len (string_eq t) ks ≡ position_or_len (bytes_eq (string_bytes t)) (map string_bytes ks)
place_of [] t = refl
place_of (s ∷ ks) t = ap (λ (n : ℕ). if not (bytes_eq (string_bytes t) (string_bytes s)) then 1 + n else 0) (place_of ks t)
