-- Definitions. What a call returns for a text that it rejects.
use Rattle.std.specs.Prelude.{◌≡◌, ℕ, ◌≤◌, List, length, Option, Some}
use Rattle.souper_errors.specs.declared.error.ParseError.{ParseError}
use Rattle.souper_errors.specs.Errors.{kind_of, offset_of, HasLocation, ShowsPlace, OnKind}
use Rattle.souper_graph.specs.Syntax.Spelling.{ItemType, SpellsNone}

-- The error is out of memory, or the text spells no items of the type: then its offset is within the text, it has the location
-- of this offset and shows it under the file name, and it says where the text is at fault.
abbrev pub IsStrError : ItemType → Option (List ℕ) → List ℕ → ParseError → Type 0
IsStrError k file source e = OnKind (kind_of e)
    ⊥
    ((offset : ℕ) × (offset_of e ≡ Some offset) × (offset ≤ length source) × SpellsNone k source
    × ShowsPlace file source offset e × HasLocation source e)
    (Unit {0})
