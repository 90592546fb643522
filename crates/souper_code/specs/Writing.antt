-- Definitions. The canonical texts of the items that a code is the code of, and why there are none.
use Rattle.std.specs.Prelude.{◌≡◌, ℕ, List, ◌∷◌, ◌++◌, length}
use Rattle.std.specs.List.{AllByRecursion}
use Rattle.souper_graph.specs.Values.{Item}
use Rattle.souper_graph.specs.Text.{texts_of}
use Rattle.souper_graph.specs.WellFormed.{WellFormed}
use Rattle.souper_graph.specs.Syntax.Spelling.{ItemType}
use Rattle.souper_code.specs.Codes.{code_of, code_of_items}
use Rattle.souper_code.specs.Codable.{CodableItem}
use Rattle.souper_code.specs.declared.write.Place.{Place}
use Rattle.souper_code.specs.declared.write.WriteError.{WriteError}
use Rattle.souper_code.specs.declared.write.WriteError.TheVariants.{NoCode, NotWellFormed, OutOfMemory}

-- the bytes are the code of the items of the type
abbrev pub IsCodeOf : ItemType → List ℕ → List Item → Type 0
IsCodeOf k code xs = AllByRecursion (CodableItem k) xs × (code ≡ code_of_items xs)

-- the bytes are the code of the items of the type, and of no other list
abbrev pub IsCodeOfOnly : ItemType → List ℕ → List Item → Type 0
IsCodeOfOnly k code xs = IsCodeOf k code xs × ((ys : List Item) → IsCodeOf k code ys → xs ≡ ys)

-- the bytes are the code of no list of items of the type
abbrev pub IsNoCode : ItemType → List ℕ → Type 0
IsNoCode k code = (xs : List Item) → ¬ (IsCodeOf k code xs)

-- the bytes are the code of well-formed items of the type
abbrev pub IsCodeOfWellFormed : ItemType → List ℕ → Type 0
IsCodeOfWellFormed k code = (xs : List Item) × IsCodeOf k code xs × AllByRecursion WellFormed xs

-- the bytes do not begin with the code of an item of the type
abbrev pub BeginsWithNone : ItemType → List ℕ → Type 0
BeginsWithNone k code = (x : Item) (rest : List ℕ) → CodableItem k x → ¬ (code ≡ code_of x ++ rest)

-- the place after the items
abbrev pub IsPlaceAfter : List Item → Place → Type 0
IsPlaceAfter xs p = (length xs ≡ p.index) × (length (code_of_items xs) ≡ p.offset)

-- the bytes are the code of well-formed items, and the text is their canonical texts, a newline after each
abbrev pub IsWritten : ItemType → List ℕ → List ℕ → Type 0
IsWritten k code text = (xs : List Item) × IsCodeOfOnly k code xs × AllByRecursion WellFormed xs × (text ≡ texts_of xs)

-- the bytes are no code: the place is after the codes of some items, and the code of no item follows there
abbrev pub IsNoCodeAt : ItemType → List ℕ → Place → Type 0
IsNoCodeAt k code p = IsNoCode k code
    × ((before : List Item) × (rest : List ℕ) × AllByRecursion (CodableItem k) before × (code ≡ code_of_items before ++ rest) × IsPlaceAfter before p × BeginsWithNone k rest)

-- the bytes are the code of items, and the first that is not well formed is at the place
abbrev pub IsIllFormedAt : ItemType → List ℕ → Place → Type 0
IsIllFormedAt k code p = (before : List Item) × (x : Item) × (after : List Item) × IsCodeOfOnly k code (before ++ (x ∷ after))
    × AllByRecursion WellFormed before × (¬ (WellFormed x)) × IsPlaceAfter before p

-- what an error says of the bytes
abbrev pub IsWriteError : ItemType → List ℕ → WriteError → Type 0
IsWriteError k code (NoCode p) = IsNoCodeAt k code p
IsWriteError k code (NotWellFormed p) = IsIllFormedAt k code p
IsWriteError k code OutOfMemory = Unit {0}
