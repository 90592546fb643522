-- Definitions. What a location says of a text.
use Rattle.std.specs.Prelude.{◌≡◌, ℕ, ◌+◌, ◌≤◌, List, length, Bool, Option, None, Some}
use Rattle.std.specs.Int.{from_bool}
use Rattle.souper_graph.specs.Syntax.Spelling.{ItemType, SpellsNone}
use Rattle.souper_errors.specs.Errors.{at_end_of, location_of}
use Rattle.souper_errors.specs.Places.{IsEnd, IsPlace}
use Rattle.souper_ir.specs.Stopping.{TextStops}
use Rattle.souper_errors.specs.declared.error.ParseError.{ParseError}
use Rattle.souper_errors.specs.declared.place.Location.{Location}
use Rattle.souper_calls.specs.Kinds.{OfType}
use Rattle.souper_calls.specs.declared.location.SouperLocation.{SouperLocation}

-- no location
abbrev pub HasNoLocation : SouperLocation → Type 0
HasNoLocation l = (l.at_end ≡ 0) × (l.offset ≡ 0) × (l.line ≡ 0) × (l.column ≡ 0)

-- the numbers of the location, if there is one; else memory ran out
abbrev pub IsLocationBy : Option Location → ParseError → SouperLocation → Type 0
IsLocationBy None e l = (l.status ≡ 3) × HasNoLocation l
IsLocationBy (Some at) e l = (l.status ≡ 1) × (l.offset ≡ at.offset) × (l.line ≡ at.line) × (l.column ≡ at.column) × (l.at_end ≡ from_bool (at_end_of e))

abbrev pub IsLocationOf : ParseError → SouperLocation → Type 0
IsLocationOf e l = IsLocationBy (location_of e) e l

-- the line and the column are those of the byte at the offset, or of the source's end
abbrev pub IsLocation : List ℕ → SouperLocation → Type 0
IsLocation source l = (l.offset ≤ length source) × (l.at_end ≡ 1 → IsEnd source l.offset) × ((text : List ℕ) × IsPlace source (l.offset + 1) l.line l.column text)

-- the source spells no items of the kind, and the location is one of it; it says that the source ended if and only if the reading of it
-- does, and then only white space comes after it
abbrev pub LocatesFault : ℕ → List ℕ → SouperLocation → Type 0
LocatesFault kind source l = OfType kind (λ k. SpellsNone k source × IsLocation source l × ((ended : Bool) × (l.at_end ≡ from_bool ended) × TextStops k source ended))
