-- Reading a list: the elements that were read so far begin each list whose code the bytes begin with.
use Rattle.std.proofs.Common.{◌≡◌, ℕ, ◌<◌, ◌≤◌, ◌^◌, List, [], ◌∷◌, ◌++◌, length, flat_map, Result, Err, refl, sym, ◌∙◌, ap, subst, append_assoc, arith, rules, length-append}
use Rattle.std.specs.List.{AllByRecursion}
use Rattle.souper_code.specs.declared.decode.DecodeError.{DecodeError}
use Rattle.souper_code.specs.Codes.{code_of_size, code_of_list}
use Rattle.souper_code.specs.Codable.{CodableList}
use Rattle.souper_code.specs.Reading.{IsMemory, Decodes}

-- each list of that length whose code the bytes begin with begins with done, and left begins with the code of its other elements
abbrev pub Begins : {X : Type 0} → (X → List ℕ) → (X → Type 0) → ℕ → List ℕ → List X → List ℕ → Type 0
Begins {X} code Codable count all done left = (xs : List X) (rest : List ℕ) → length xs ≡ count → AllByRecursion Codable xs → all ≡ flat_map code xs ++ rest
    → (others : List X) × (xs ≡ done ++ others) × AllByRecursion Codable others × (left ≡ flat_map code others ++ rest)

-- the value is the only one whose code the bytes begin with
abbrev pub IsOnly : {X : Type 0} → (X → List ℕ) → (X → Type 0) → List ℕ → X → List ℕ → Type 0
IsOnly {X} code Codable all x left = (y : X) (rest : List ℕ) → Codable y → all ≡ code y ++ rest → (x ≡ y) × (left ≡ rest)

abbrev pub IsOnlySize : List ℕ → ℕ → List ℕ → Type 0
IsOnlySize all n left = IsOnly code_of_size (λ n. n < 2 ^ 64) all n left

-- the bytes begin with the code of no value, or memory ran out
abbrev pub IsNone : {X : Type 0} → (X → List ℕ) → (X → Type 0) → List ℕ → DecodeError → Type 0
IsNone {X} code Codable all e = (y : X) (rest : List ℕ) → Codable y → all ≡ code y ++ rest → IsMemory e

pub begins_none : {X : Type 0} (code : X → List ℕ) (Codable : X → Type 0) (count : ℕ) (all : List ℕ) → Begins code Codable count all [] all
begins_none code Codable count all = λ xs rest long fits e. (xs, refl, fits, e)

no_others : {X : Type 0} (count : ℕ) (xs done : List X) → length xs ≡ count → length done < count → xs ≡ done ++ [] → ⊥
no_others count xs done long short e = omega (arith, ap length e, length-append done [])

pub begins_more : {X : Type 0} (code : X → List ℕ) (Codable : X → Type 0) (count : ℕ) (all : List ℕ) (done : List X) (left : List ℕ) (x : X) (after : List ℕ)
    → Begins code Codable count all done left → length done < count → IsOnly code Codable left x after → Begins code Codable count all (done ++ (x ∷ [])) after
begins_more {X} code Codable count all done left x after begins short only = λ xs rest long fits e.
    let (others, is, fit, front) = begins xs rest long fits e in
    elim others as (λ (others : List X). xs ≡ done ++ others → AllByRecursion Codable others → left ≡ flat_map code others ++ rest
    → (more : List X) × (xs ≡ (done ++ (x ∷ [])) ++ more) × AllByRecursion Codable more × (after ≡ flat_map code more ++ rest)) [
      | [] ↦ λ is fit front. absurd (no_others count xs done long short is)
      | ◌∷◌ y more ↦ λ is fit front.
          let one = only y (flat_map code more ++ rest) fit.0 (front ∙ append_assoc (code y) (flat_map code more) rest) in
          (more, is ∙ ap (λ (z : X). done ++ (z ∷ more)) (sym one.0) ∙ sym (append_assoc done (x ∷ []) more), fit.1, one.1)
    ] is fit front

begins_all : {X : Type 0} (code : X → List ℕ) (Codable : X → Type 0) (count : ℕ) (all : List ℕ) (done : List X) (left : List ℕ)
    → Begins code Codable count all done left → count ≤ length done → IsOnly (flat_map code) (λ xs. (length xs ≡ count) × AllByRecursion Codable xs) all done left
begins_all {X} code Codable count all done left begins whole = λ xs rest fits e.
    let (others, is, fit, front) = begins xs rest fits.0 fits.1 e in
    elim others as (λ (others : List X). xs ≡ done ++ others → left ≡ flat_map code others ++ rest → (done ≡ xs) × (left ≡ rest)) [
      | [] ↦ λ is front. (sym (is ∙ search rules), front)
      | ◌∷◌ y more ↦ λ is front. absurd (omega (arith, fits.0, ap length is, length-append done (y ∷ more)))
    ] is front

begins_not : {X : Type 0} (code : X → List ℕ) (Codable : X → Type 0) (count : ℕ) (all : List ℕ) (done : List X) (left : List ℕ) (e : DecodeError)
    → Begins code Codable count all done left → length done < count → IsNone code Codable left e
    → IsNone (flat_map code) (λ xs. (length xs ≡ count) × AllByRecursion Codable xs) all e
begins_not {X} code Codable count all done left e begins short none = λ xs rest fits is_front.
    let (others, is, fit, front) = begins xs rest fits.0 fits.1 is_front in
    elim others as (λ (others : List X). xs ≡ done ++ others → AllByRecursion Codable others → left ≡ flat_map code others ++ rest → IsMemory e) [
      | [] ↦ λ is fit front. absurd (no_others count xs done fits.0 short is)
      | ◌∷◌ y more ↦ λ is fit front. none y (flat_map code more ++ rest) fit.0 (front ∙ append_assoc (code y) (flat_map code more) rest)
    ] is fit front

-- all elements were read
pub list_only : {X : Type 0} (code : X → List ℕ) (Codable : X → Type 0) (whole all : List ℕ) (count : ℕ) (done : List X) (left : List ℕ)
    → IsOnlySize whole count all → Begins code Codable count all done left → count ≤ length done → IsOnly (code_of_list code) (CodableList Codable) whole done left
list_only code Codable whole all count done left first begins long = λ xs rest fits e.
    let size = first (length xs) (flat_map code xs ++ rest) fits.0 (e ∙ append_assoc (code_of_size (length xs)) (flat_map code xs) rest) in
    begins_all code Codable count all done left begins long xs rest (sym size.0, fits.1) size.1

-- an element was not read
pub list_none : {X : Type 0} (code : X → List ℕ) (Codable : X → Type 0) (whole all : List ℕ) (count : ℕ) (done : List X) (left : List ℕ) (e : DecodeError)
    → IsOnlySize whole count all → Begins code Codable count all done left → length done < count → IsNone code Codable left e
    → IsNone (code_of_list code) (CodableList Codable) whole e
list_none code Codable whole all count done left e first begins short none = λ xs rest fits is.
    let size = first (length xs) (flat_map code xs ++ rest) fits.0 (is ∙ append_assoc (code_of_size (length xs)) (flat_map code xs) rest) in
    begins_not code Codable count all done left e begins short none xs rest (sym size.0, fits.1) size.1

-- an error is passed on
pub passed : {V : Type 0} (r : Result V DecodeError) (e : DecodeError) (Is : V → Type 0) (left rest : List ℕ) → r ≡ Err e → IsMemory e → Decodes r Is left rest
passed {V} r e Is left rest is memory = subst (λ (r : Result V DecodeError). Decodes r Is left rest) (sym is) memory
