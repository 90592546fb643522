-- Definitions. What is read from the front of a code.
use Rattle.std.specs.Prelude.{◌≡◌, ℕ, List, Result, Ok, Err}
use Rattle.souper_code.specs.declared.decode.DecodeError.{DecodeError}
use Rattle.souper_code.specs.declared.decode.DecodeError.TheVariants.{NoCode, OutOfMemory}

abbrev pub IsMemory : DecodeError → Type 0
IsMemory NoCode = ⊥
IsMemory OutOfMemory = Unit {0}

-- the result has the property, and the rest is left; unless memory ran out
abbrev pub Decodes : {V : Type 0} → Result V DecodeError → (V → Type 0) → List ℕ → List ℕ → Type 0
Decodes (Ok v) Is left rest = Is v × (left ≡ rest)
Decodes (Err e) Is left rest = IsMemory e
