-- Definitions. The first words of a record's head.
use Rattle.std.specs.Prelude.{◌≡◌, ℕ, List, ◌∷◌, ◌++◌, Bool, true, false, Option, Some, None, if◌then◌else◌, codes, bytes_eq}
use Rattle.souper_errors.specs.declared.kind.Kind.{Kind}
use Rattle.souper_errors.specs.Kinds.{kind_of_word}

-- status 1 means that the text is rejected, 0 that it is not
abbrev pub is_refused_by_word : List ℕ → Option Bool
is_refused_by_word word =
    if bytes_eq word (codes "0") then Some false else (
    if bytes_eq word (codes "1") then Some true else None)

-- the line begins with a word for the kind and one for the status, with a space after each
abbrev pub IsHead : List ℕ → Kind → Bool → Type 0
IsHead line kind is_refused =
    (word : List ℕ) × (status : List ℕ) × (rest : List ℕ) × (line ≡ word ++ 32 ∷ (status ++ 32 ∷ rest))
    × (kind_of_word word ≡ Some kind) × (is_refused_by_word status ≡ Some is_refused)
